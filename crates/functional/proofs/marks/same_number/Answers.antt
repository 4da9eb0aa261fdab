-- `functional::marks::same_number` meets its contract: numbers that are equal are no NaN, and what the format holds is what its pattern says. Assumes nothing.
use mathlib.Core.Path.{◌≡◌, sym, ap, subst, ◌∙◌}
use mathlib.Core.Bool.{true, not, false≢true}
use borrow.Author.Tests.{eqb-true}
use lib.Dec.{T}
use lib.Ieee.{Float, nan, inf, fin, binary64, of_bits, is_nan, eq}
use lib.Ieee.Bits.{of_bits-to_bits}
use Rattle.functional.proofs.marks.same_number.Goals as goal

first_no_nan : (a b : Float) → eq a b ≡ true → T (not (is_nan a))
unfolding is_nan eq
first_no_nan nan b e = absurd (false≢true e)
first_no_nan (inf s) b e = tt
first_no_nan (fin s m k) b e = tt

second_no_nan : (a b : Float) → eq a b ≡ true → T (not (is_nan b))
unfolding is_nan eq
second_no_nan nan nan e = absurd (false≢true e)
second_no_nan (inf s) nan e = absurd (false≢true e)
second_no_nan (fin s m k) nan e = absurd (false≢true e)
second_no_nan a (inf s) e = tt
second_no_nan a (fin s m k) e = tt

pub float_to_bits-result : goal.float_to_bits-result
float_to_bits-result c = first_no_nan c.args.a c.args.b c.if-a-b.true

pub float_to_bits-result-then-a-b : goal.float_to_bits-result-then-a-b
float_to_bits-result-then-a-b c = second_no_nan c.args.a c.args.b c.if-a-b.true

pub returns-then-a-b : goal.returns-then-a-b
returns-then-a-b c e =
    let s = c in
    sym (of_bits-to_bits binary64 s.args.a (subst T (sym s.well_formed.0.1) tt))
    ∙ ap (of_bits binary64) (eqb-true _ _ e)
    ∙ of_bits-to_bits binary64 s.args.b (subst T (sym s.well_formed.1.0.1) tt)

pub returns-else-a-b : goal.returns-else-a-b
returns-else-a-b c e = absurd (false≢true (sym c.if-a-b.false ∙ e))
