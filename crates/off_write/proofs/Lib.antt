mod Waiting
mod Texts
mod Parts
mod TextPieces
mod TextLaws
