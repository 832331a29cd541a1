-- Hits at the hand, and what makes a salvo sound.
pub mod Strike
pub mod SceneHitLaws
pub mod SceneBoxes
pub mod Hands
pub mod Refusals
pub mod Rest
pub mod Endless
pub mod FrontLaws
pub mod LiveCellLaws
pub mod FurtherBack
pub mod Sound
pub mod SalvoRefusals
pub mod Checked
pub mod OneHitLaws
pub mod InTurnLaws
