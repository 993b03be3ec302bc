pub mod Trees
pub mod Grammar
pub mod Body
pub mod Conversion
pub mod Statement
