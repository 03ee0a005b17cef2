pub mod BarredLemmas
pub mod FreezeLemmas
pub mod PeopleLemmas
pub mod PlacingLemmas
pub mod SettingLemmas
