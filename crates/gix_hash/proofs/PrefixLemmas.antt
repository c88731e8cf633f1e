-- What the calls on prefixes ensure, over plain variables: how first digits compare, and digits with zeros after them.
pub mod Order
pub mod Zeros
