mod Runners
