-- The origins of a chain, later.
pub use Rattle.mcs_origins.specs.Later.{later_mark, later_set, later_origins}
pub use Rattle.mcs_chain.specs.Later.{later_sent, is_within, StepsAreSame, AreLater}
