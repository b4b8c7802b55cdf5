mod Appending
mod Numbers
mod RunTexts
mod FirstLines
mod Endings
