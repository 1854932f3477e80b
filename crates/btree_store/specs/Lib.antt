pub mod Content
pub mod ContentLaws
pub mod SlotLaws
