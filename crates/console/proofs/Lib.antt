mod Homes
mod Steps
mod Keyed
mod Follow
mod Panels
mod Captures
mod Making
mod Sending
pub mod Records
mod DoneCalls
mod KeyLaws
mod KnobLaws
mod RefusalLaws
