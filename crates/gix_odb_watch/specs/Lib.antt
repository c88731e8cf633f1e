-- Which paths are watched and what a tree shows at them; what is kept of that; and what was shown over a family of trees. The others are inner
-- words.
pub mod Watched
pub mod Kept
pub mod HasShown
pub mod Files
pub mod Revealed
pub mod Touched
pub mod Over
pub mod Sight
