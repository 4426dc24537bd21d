mod Foretelling
mod Clean
