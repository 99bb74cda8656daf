-- The phrase of each form of expression.
use Rattle.std.proofs.Common.{◌≡◌, refl, Bool, true, false, not}
use Rattle.std.specs.Prelude.{◌&&◌}
use Rattle.bare_phrases.proofs.Forms.{exp_phrase-Int, exp_phrase-Str, exp_phrase-Char, exp_phrase-Long, exp_phrase-Record, exp_phrase-Let, exp_phrase-App, exp_phrase-Typed, exp_phrase-Handle, exp_phrase-Raise, exp_phrase-Fn, exp_field_phrase-kept}

pub ruleset forms = (exp_phrase-Int, exp_phrase-Str, exp_phrase-Char, exp_phrase-Long, exp_phrase-Record, exp_phrase-Let, exp_phrase-App, exp_phrase-Typed, exp_phrase-Handle, exp_phrase-Raise, exp_phrase-Fn, exp_field_phrase-kept)

pub and_not : (s r : Bool) → r ≡ false → s ≡ (s && not r)
and_not true true e = absurd (cc)
and_not false true e = refl
and_not true false e = refl
and_not false false e = refl
