-- What declarations leave of infix status: what stood before them stays at its front.
use Rattle.std.proofs.Common.{◌≡◌, ◌-◌, ◌≤◌, ◌++◌, refl, sym, ap, ◌∙◌, take, drop, length, min, arith}
use Rattle.std.proofs.lemmas.List.{length-take, take-take, take_at}
use Rattle.infix_names.specs.Fixities.{Fixities, left_over}

-- what is declared behind others leaves those
pub kept_more : (a more : Fixities) → take (length a) (a ++ more) ≡ a
kept_more a more = take_at a more (length a) refl

kept_length : (a b : Fixities) → take (length a) b ≡ a → length a ≤ length b
kept_length a b h =
    let e : min (length a) (length b) ≡ length a = sym (length-take (length a) b) ∙ ap length h in grind (arith, e)

-- what leaves what was left leaves it
pub kept_then : (a b c : Fixities) → take (length a) b ≡ a → take (length b) c ≡ b → take (length a) c ≡ a
kept_then a b c h k =
    sym (take-take (length a) (length b) c (kept_length a b h)) ∙ ap (λ (l : Fixities). take (length a) l) k ∙ h

-- what a `local` leaves
pub kept_over : (a b c : Fixities) → take (length a) b ≡ a → take (length b) c ≡ b
    → take (length a) (left_over (length a) (length b) c) ≡ a
kept_over a b c h k =
    let same : take (length a) c ≡ a = kept_then a b c h k in
    take_at (take (length a) c) (drop (length b - length a) (drop (length a) c)) (length a) (ap length same) ∙ same

pub ruleset kept_steps = (kept_more, kept_then, kept_over)
