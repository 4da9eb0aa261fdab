-- Laws of a text in the making. Assumes nothing.
use Rattle.std.proofs.Common.{ℕ, ◌≡◌, ◌+◌, ◌/◌, ◌%◌, ◌≤◌, ◌<◌, Bool, true, false, cond, List, [], ◌∷◌, ◌++◌, length, refl, sym, ap, ◌∙◌, arith}
use lib.Dec.{ltb}
use lib.ListN.{length-append}
use borrow.Author.Tests.{lt-ltb, le-ltb, ltb-false, ltb-true}
use Rattle.cuts_output.specs.declared.text.Text.{Text}
use Rattle.cuts_output.specs.Lines.{digit, decimal}
use Rattle.cuts_output.specs.Written.{Front}
use Rattle.cuts_output.specs.Inner.Text.{Put}
use Rattle.cuts_output.proofs.LineLaws.{decimal_last, decimal_more, written_none, written_then, written_as, written_long}

pub put_none : (a : Text) → Put [] a a
put_none a = record { same_area = refl; written = written_none _ _ }

-- one after the other
pub put_then : {xs ys : List ℕ} {a b c : Text} → Put xs a b → Put ys b c → Put (xs ++ ys) a c
put_then p q = record { same_area = q.same_area ∙ p.same_area; written = written_then p.written q.written }

-- the same bytes by another name
pub put_as : {xs ys : List ℕ} {a b : Text} → xs ≡ ys → Put xs a b → Put ys a b
put_as e p = record { same_area = p.same_area; written = written_as e p.written }

pub put_long : {xs : List ℕ} {a b : Text} → Put xs a b → length b.out.now ≡ length a.out.now
put_long p = written_long p.written

-- ---- the digits in front of the last one
unfoldable pub front : ℕ → List ℕ
front n = cond (ltb n 10) [] (decimal (n / 10))

front_less : (n : ℕ) → n < 10 → front n ≡ []
unfolding front
front_less n h = ap (λ (b : Bool). cond b [] (decimal (n / 10))) (lt-ltb n 10 h)

front_more : (n : ℕ) → 10 ≤ n → front n ≡ decimal (n / 10)
unfolding front
front_more n h = ap (λ (b : Bool). cond b [] (decimal (n / 10))) (le-ltb n 10 h)

pub put_front_less : (n : ℕ) (a : Text) → n < 10 → Put (front n) a a
put_front_less n a h = put_as (sym (front_less n h)) (put_none a)

pub put_front_more : (n : ℕ) {a b : Text} → 10 ≤ n → Put (decimal (n / 10)) a b → Put (front n) a b
put_front_more n h p = put_as (sym (front_more n h)) p

pub decimal_front : (n : ℕ) → front n ++ (digit (n % 10) ∷ []) ≡ decimal n
decimal_front n = go (ltb n 10) refl
  where
    go : (b : Bool) → ltb n 10 ≡ b → front n ++ (digit (n % 10) ∷ []) ≡ decimal n
    go true e = rw (front_less n (ltb-true n 10 e)) (sym (decimal_last n (ltb-true n 10 e)))
    go false e = rw (front_more n (ltb-false n 10 e)) (sym (decimal_more n (ltb-false n 10 e)))

-- where a number has room, its last digit has it
pub last_fits : (n : ℕ) {a b : Text} → a.at + length (decimal n) ≤ length a.out.now → Put (front n) a b → b.at < length b.out.now
last_fits n {a} {b} h p = omega (arith, h, p.written.place, put_long p, ap length (sym (decimal_front n)) ∙ length-append (front n) (digit (n % 10) ∷ []))

-- ---- a whole text stands at the front of its area
pub put_whole : {xs bytes out : List ℕ} {a b : Text} → out ≡ b.out.now → xs ≡ bytes → a.at ≡ 0 → Put xs a b → b.at ≤ length a.out.now → Front bytes a.out.now out b.at
put_whole {xs} {bytes} {out} {a} {b} k e z p h = rw (k, ← e) (record { written = rw z at p.written; fits = h })
