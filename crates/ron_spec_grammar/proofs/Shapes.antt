pub mod Range
-- What each shape's rule owes, one file a shape; `Levels` puts them together.
pub mod Units
pub mod Int
pub mod Texts
pub mod Bytes
pub mod Option
pub mod Seq
pub mod Tuple
pub mod Map
pub mod Newtype
pub mod Struct
pub mod Enum
pub mod Value
pub mod Raw
