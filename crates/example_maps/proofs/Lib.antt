pub mod BookingLemmas
mod PageLemmas
mod RenumberLemmas
mod ShelfLemmas
mod StockLemmas
mod TextLemmas
