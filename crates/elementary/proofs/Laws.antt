-- What other crates may cite of the laws below `ln`: bit patterns as values, significands of 53 digits, and the logarithm by both. Assumes nothing.
pub use Rattle.elementary.proofs.parts.Values.{Pattern, below, value, unit_fits, same_value, placed_is, count_high}
pub use Rattle.elementary.proofs.parts.Patterns.{pattern_below, low_pattern, less_is_no_nan}
pub use Rattle.elementary.proofs.parts.Shifts.{sig, exp, high_scaled, high_root}
pub use Rattle.elementary.proofs.logarithm.Exponents.{small_signed, difference_fits, difference_kept, one_more}
pub use Rattle.elementary.proofs.logarithm.Scaling.{ln_of_value, ln_of_parts}
