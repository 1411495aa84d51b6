-- Why what is written within the lent memory is what finds room.
pub mod Room
