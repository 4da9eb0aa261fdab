-- What a call does to a text in the making. Only private contracts and proofs need it. Definitions only.
use Rattle.std.specs.Prelude.{ℕ, ◌≡◌, List}
use Rattle.cuts_output.specs.declared.text.Text.{Text}
use Rattle.cuts_output.specs.Written.{Written}

-- `after` is `before` with `bytes` written behind it, in the same area
pub record Put (bytes : List ℕ) (before after : Text) : Type 0 where
  pub same_area : after.out.ghost_name ≡ before.out.ghost_name
  pub written : Written bytes before.at before.out.now after.out.now after.at
