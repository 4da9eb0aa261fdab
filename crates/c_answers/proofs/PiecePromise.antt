-- What a program in another language is told of a piece, in the words of the contract of `desk: overbrindle_piece_summary`: that there is one is 1 or 0, 1 exactly where a piece of two or more readings was summarised, and then the spread is the summary's; without one it is +0; and it is never below 0. A gap in the channel is told as NaN. Assumes nothing.
use mathlib.Core.Path.{◌≡◌, refl, sym, ap, subst, ◌∙◌}
use mathlib.Core.Logic.{◌⊎◌, inl, inr}
use mathlib.Core.Bool.{false}
use mathlib.Core.List.{List}
use Prim.Native.Nat.{ℕ, ◌≤◌, ◌<◌}
use native.Mathlib.Omega.{arith}
use lib.ListN.{length, get_or}
use lib.Ieee.{Float, nan}
use Rattle.std.specs.Prelude.{Result, Ok, Err, Option, Some, None}
use Rattle.floats.specs.Numbers.{+0}
use Rattle.floats.specs.Finite.{finite}
use Rattle.floats.proofs.Order.FromZero.{FromZero, Unsigned, unsigned_from_zero}
use Rattle.refusals.specs.Stated.{stated}
use Rattle.refusals.specs.declared.Refusal.{Refusal}
use Rattle.refusals.proofs.ValueLaws.{number_bounds}
use Rattle.piece.specs.declared.PieceSummary.{PieceSummary}
use Rattle.piece.specs.Piece.{summarised_as}
use Rattle.piece.proofs.SpreadLaws.{summary_absent, spread_more, summary_unsigned}
use Rattle.piece.proofs.GapLaws.{gap_mean, gap_spread}
use Rattle.c_answers.specs.declared.ToldPiece.{ToldPiece}
use Rattle.c_answers.specs.Told.{piece_as, spread_told, piece_of}

-- a refusal's number is not 0
not_refused : (number : ℕ) (r : Refusal) → number ≡ 0 → number ≡ (stated r).number → ⊥
not_refused number r z e = never (number_bounds r).0
  where
    never : 0 < (stated r).number → ⊥
    never h = omega (arith, h, e, z)

module _ (xs : List Float) (a b number size : ℕ) (mean : Float) (has : ℕ) (spread : Float) (told : piece_as number size mean has spread ≡ piece_of (summarised_as xs a b)) where
  -- the summary that has the spread, or why there is none
  data Cases : Type 0 where
    of_summary : (s : PieceSummary) → Ok s ≡ summarised_as xs a b → s.spread ≡ Some spread → number ≡ 0 → size ≡ s.length → has ≡ 1 → Cases
    none : has ≡ 0 → spread ≡ +0 → (number ≡ 0 → size ≡ 1) → Cases

  cases : Cases
  unfolding spread_told piece_of
  cases = go (summarised_as xs a b) refl told
    where
      of_piece : (s : PieceSummary) (v : Option Float) → Ok s ≡ summarised_as xs a b → s.spread ≡ v → number ≡ 0 → size ≡ s.length → has ≡ (spread_told v).has → spread ≡ (spread_told v).value → Cases
      of_piece s None e v n l h x = none h x (λ _. l ∙ summary_absent xs a b s e v)
      of_piece s (Some x) e v n l h y = of_summary s e (v ∙ ap Some (sym y)) n l h

      go : (r : Result PieceSummary Refusal) → r ≡ summarised_as xs a b → piece_as number size mean has spread ≡ piece_of r → Cases
      go (Ok s) e t = of_piece s s.spread e refl (ap (λ (p : ToldPiece). p.number) t) (ap (λ (p : ToldPiece). p.length) t) (ap (λ (p : ToldPiece). p.has_spread) t) (ap (λ (p : ToldPiece). p.spread) t)
      go (Err r) e t = none (ap (λ (p : ToldPiece). p.has_spread) t) (ap (λ (p : ToldPiece). p.spread) t) (λ z. absurd (not_refused number r z (ap (λ (p : ToldPiece). p.number) t)))

  -- 1 or 0
  pub has_told : (has ≡ 1) ⊎ (has ≡ 0)
  has_told = elim cases [ of_summary s e v n l h ↦ inl h | none h x k ↦ inr h ]

  -- 1 where a piece of two or more readings was summarised
  pub more_told : number ≡ 0 → 2 ≤ size → has ≡ 1
  more_told z m = elim cases [ of_summary s e v n l h ↦ h | none h x k ↦ absurd (short (k z)) ]
    where
      short : size ≡ 1 → ⊥
      short e = omega (arith, e, m)

  -- and there alone, with the spread of the summary
  pub spread_told_lem : has ≡ 1 → (s : PieceSummary) × ((Ok s ≡ summarised_as xs a b) × (s.spread ≡ Some spread) × (number ≡ 0) × (2 ≤ size))
  spread_told_lem o = elim cases [ of_summary s e v n l h ↦ (s, (e, v, n, rw l (spread_more xs a b s e spread v))) | none h x k ↦ absurd (both h) ]
    where
      both : has ≡ 0 → ⊥
      both e = omega (arith, e, o)

  -- without one the spread is +0
  pub none_told : has ≡ 0 → spread ≡ +0
  none_told z = elim cases [ of_summary s e v n l h ↦ absurd (both h) | none h x k ↦ x ]
    where
      both : has ≡ 1 → ⊥
      both e = omega (arith, e, z)

  -- whatever is told as the spread has no minus sign, or is NaN: it is never below 0
  pub unsigned_told : Unsigned spread
  unsigned_told = elim cases [ of_summary s e v n l h ↦ summary_unsigned xs a b s e spread v | none h x k ↦ subst Unsigned (sym x) (λ _. tt) ]

  pub from_zero_told : FromZero spread
  from_zero_told = unsigned_from_zero spread unsigned_told

  -- ---- a gap anywhere in the channel shows: what is told as the mean, and as a spread, is NaN
  module _ (i : ℕ) (within : i < length xs) (gap : finite (get_or xs i nan) ≡ false) where
    pub gap_mean_told : number ≡ 0 → mean ≡ nan
    unfolding piece_of
    gap_mean_told z = go (summarised_as xs a b) refl told
      where
        go : (r : Result PieceSummary Refusal) → r ≡ summarised_as xs a b → piece_as number size mean has spread ≡ piece_of r → mean ≡ nan
        go (Ok s) e t = ap (λ (p : ToldPiece). p.mean) t ∙ gap_mean xs a b s e i within gap
        go (Err r) e t = absurd (not_refused number r z (ap (λ (p : ToldPiece). p.number) t))

    pub gap_spread_told : has ≡ 1 → spread ≡ nan
    gap_spread_told o = let s = spread_told_lem o in gap_spread xs a b s.0 s.1.0 i within gap spread s.1.1
