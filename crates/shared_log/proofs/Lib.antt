pub mod FilledLaws
pub mod LeftLaws
mod Lists
pub mod LiveLaws
pub mod PlacesLaws
pub mod RoomLaws
mod Tables
