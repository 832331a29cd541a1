-- When the turns and hits of a plan come, and what a book builds for a target.
pub mod InTime
pub mod LastDelay
pub mod NearEvents
pub mod Adding
pub mod NearPlanLaws
pub mod Built
pub mod Laying
pub mod Parts
