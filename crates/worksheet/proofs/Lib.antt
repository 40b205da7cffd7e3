pub mod SheetWords
