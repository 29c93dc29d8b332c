-- What each module is about, and in brackets the lemma to look at first.
-- Rising: a shelf rises after each call (`rises_put`).
-- Nearest: the last snapshot that is not above an index is the nearest one (`nearest_tells`).
-- Tops: an index that no snapshot is above (`top_is`, and back `is_top_by`).
pub mod Rising
pub mod Nearest
pub mod Tops
