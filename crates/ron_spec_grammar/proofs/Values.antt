-- Values without a schema: reading them exactly, their normal forms, and what they become by a schema.
pub mod Maps
pub mod DeepValues
pub mod Facts
pub mod Normals
pub mod Telling
pub mod Forms
pub mod Contents
pub mod Grammar
pub mod Place
pub mod Body
pub mod DeepData
pub mod Conversion
pub mod ConversionExamples
pub mod Examples
