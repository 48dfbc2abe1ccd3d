-- What the printing of a script uses.
mod PlacesRead
mod PartsLeft
mod Scripts
