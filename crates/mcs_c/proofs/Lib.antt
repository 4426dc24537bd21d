mod Keeping
mod Given
