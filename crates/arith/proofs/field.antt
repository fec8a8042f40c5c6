pub mod ExclusiveOr
