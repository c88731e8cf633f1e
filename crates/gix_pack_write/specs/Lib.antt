-- The encodings of objects, their pack and its index, and what is read back of them; then the rows as the encoders keep them.
-- The encoding of a multi-pack index; then how the encoder goes through it.
pub mod WrittenPack
pub mod WrittenTables
pub mod WrittenIndex
pub mod ReadPack
pub mod PlacedRow
pub mod PlacedIndexRow
pub mod WrittenMultiIndex
pub mod MultiIndexChunks
pub mod PlacedPackRow
