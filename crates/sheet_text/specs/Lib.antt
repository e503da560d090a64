-- What a reader has to believe
pub mod SheetText
pub mod Printing
-- What the functions inside promise
pub mod TextParts
-- Laws
pub mod TextLaws
