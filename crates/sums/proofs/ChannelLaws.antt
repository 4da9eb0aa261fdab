-- Laws of the sums of all channels: what fits does not wrap, one channel more, and what an untouched front keeps. Assumes nothing.
use Rattle.std.proofs.Common.{◌≡◌, ℕ, ◌+◌, ◌*◌, ◌<◌, ◌≤◌, Bool, true, false, ◌&&◌, leb, List, length, sym, refl, ◌∙◌, subst, true≢false, not-suc-le-zero, mul-le-mul_right, suc-mul, mul-le-mul, add-one, arith, below_more, lt-ltb, le-leb, leb-true}
use mathlib.Core.Bool.{false≢true}
use lib.Ieee.{Float}
use Rattle.areas.specs.Parts.{Frame}
use Rattle.readings.specs.Channels.{has_channel, channel_of}
use Rattle.areas.proofs.PartLaws.{part_front, part_length}
use Rattle.sums.specs.Sums.{mean_of, Held, Summed}
use Rattle.sums.specs.EachChannel.{Sums, sums_fit, RanEach}

-- ---- products that are not linear
pub mul_more : (c w : ℕ) → (c + 1) * w ≡ c * w + w
mul_more c w = rw add-one (suc-mul c w)

pub mul_room : (c k w : ℕ) → c < k → c * w + w ≤ k * w
mul_room c k w h = rw (← suc-mul) (mul-le-mul_right w h)

-- ---- what fits
pub record Fit (run n k size : ℕ) : Type 0 where
  pub few : k ≤ 8
  pub short : n ≤ 4096
  pub readings : k * n ≤ run
  pub room : k * (2 * (n + 1)) ≤ size

pub fit : (run n k size : ℕ) → sums_fit run n k size ≡ true → Fit run n k size
unfolding sums_fit
fit run n k size e = go (leb k 8) (leb n 4096) (leb (k * n) run) (leb (k * (2 * (n + 1))) size) refl refl refl refl e
  where
    go : (a b c d : Bool) → leb k 8 ≡ a → leb n 4096 ≡ b → leb (k * n) run ≡ c → leb (k * (2 * (n + 1))) size ≡ d → (a && (b && (c && d))) ≡ true → Fit run n k size
    go true true true true p q r s e = record { few = leb-true _ _ p; short = leb-true _ _ q; readings = leb-true _ _ r; room = leb-true _ _ s }
    go true true true false p q r s e = absurd (false≢true e)
    go true true false d p q r s e = absurd (false≢true e)
    go true false c d p q r s e = absurd (false≢true e)
    go false b c d p q r s e = absurd (false≢true e)

pub fits : (run n k size : ℕ) → k ≤ 8 → n ≤ 4096 → k * n ≤ run → k * (2 * (n + 1)) ≤ size → sums_fit run n k size ≡ true
unfolding sums_fit
fits run n k size h l m r = rw (le-leb k 8 h, le-leb n 4096 l, le-leb (k * n) run m, le-leb (k * (2 * (n + 1))) size r)

pub sums_small : (n k : ℕ) → k ≤ 8 → n ≤ 4096 → k * (2 * (n + 1)) ≤ 65552
sums_small n k h l = mul-le-mul {n₁ = k} {m₁ = 2 * (n + 1)} {n₂ = 8} {m₂ = 8194} h (omega arith)

-- ---- a channel of the run
pub has_channel_lem : (run n k c : ℕ) → k ≤ 8 → n ≤ 4096 → k * n ≤ run → c < k → has_channel run n c ≡ true
unfolding has_channel
has_channel_lem run n k c h l m g =
    rw (le-leb n 4096 l, lt-ltb c 8 (omega arith), le-leb (c * n + n) run (omega (arith, mul_room c k n g)))

pub channel_long : (run : List Float) (n k c : ℕ) → k ≤ 8 → n ≤ 4096 → k * n ≤ length run → c < k → length (channel_of run n c) ≡ n
unfolding channel_of
channel_long run n k c h l m g =
    rw (has_channel_lem (length run) n k c h l m g) (part_length run (c * n) n (omega (arith, mul_room c k n g)))

-- ---- the sums of the channels
pub summed_about : {xs : List Float} {mean centre : Float} {n : ℕ} {x y : List Float} {place : ℕ} → mean ≡ centre → Summed xs mean n x y place → Summed xs centre n x y place
summed_about {xs} {n = n} {x = x} {y = y} {place = place} e r = subst (λ (m : Float). Summed xs m n x y place) e r

held_front : {xs : List Float} {mean : Float} {n : ℕ} {x y : List Float} {b m place : ℕ} → Frame x y b m → place + 2 * (n + 1) ≤ b → Held xs mean n x place → Held xs mean n y place
held_front {n = n} {place = place} f h r =
    record { sums = part_front place (n + 1) f (omega arith) ∙ r.sums; squares = part_front (place + (n + 1)) (n + 1) f (omega arith) ∙ r.squares }

-- a change behind the sums leaves them
pub sums_kept : {run : List Float} {n k : ℕ} {x y : List Float} {b m : ℕ} → Frame x y b m → k * (2 * (n + 1)) ≤ b → Sums run n k x → Sums run n k y
sums_kept {run} {n} {k} f h r = record { channel = λ c l. held_front f (omega (arith, mul_room c k (2 * (n + 1)) l)) (r.channel c l) }

pub sums_none : (run : List Float) (n : ℕ) (area : List Float) → Sums run n 0 area
sums_none run n area = record { channel = λ c l. absurd (not-suc-le-zero l) }

-- the sums of one channel more, `signal`, behind those of the first `c`
pub sums_more : {run : List Float} {n c : ℕ} {x y signal : List Float} {m place : ℕ} → Summed signal (mean_of signal) m x y place → signal ≡ channel_of run n c → m ≡ n
    → place ≡ c * (2 * (n + 1)) → Sums run n c x → Sums run n (c + 1) y
sums_more {run} {n} {c} {x} {y} {signal} {m} {place} r e f g p =
    let frame : Frame x y place (2 * (n + 1)) = rw f at r.frame in
    let before : Sums run n c y = sums_kept frame (omega arith) p in
    let held : Held signal (mean_of signal) n y place = rw f at r.held in
    record {
      channel = below_more (λ (i : ℕ). Held (channel_of run n i) (mean_of (channel_of run n i)) n y (i * (2 * (n + 1)))) c before.channel (rw (← e, ← g) held);
    }

-- ---- with room, and without
pub each_written : {run : List Float} {n k : ℕ} {before after : List Float} → sums_fit (length run) n k (length before) ≡ true → Sums run n k after
    → Frame before after 0 (k * (2 * (n + 1))) → RanEach run n k before after
each_written e s f = record { written = λ _. s; frame = λ _. f; unchanged = λ g. absurd (true≢false (sym e ∙ g)) }

pub each_unchanged : {run : List Float} {n k : ℕ} {area : List Float} → sums_fit (length run) n k (length area) ≡ false → RanEach run n k area area
each_unchanged e = record { written = λ g. absurd (true≢false (sym g ∙ e)); frame = λ g. absurd (true≢false (sym g ∙ e)); unchanged = λ _. refl }
