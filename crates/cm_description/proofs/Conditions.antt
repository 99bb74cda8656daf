-- The condition of a text is what its reading gives.
use Rattle.std.proofs.Common.{◌≡◌, inl, inr, ℕ, List, [], ◌∷◌, Option, Some, None, Err, refl, ap, sym, ◌∙◌, subst, Bool, take, drop}
use Rattle.std.proofs.lemmas.List.{take-append-drop}
use Rattle.cm_base.specs.declared.diag.Diag.{Diag}
use Rattle.cm_base.specs.declared.diag.Place.{Place}
use Rattle.cm_base.specs.declared.fault.Fault.{Fault}
use Rattle.cm_base.specs.declared.fault.Fault.TheVariants as fault
use Rattle.grammars.specs.Grammar.{End, Phrase}
use Rattle.grammars.specs.Reading.{Out, end_of, read}
use Rattle.grammars.specs.Texts.{IsTooDeep}
use Rattle.grammars.proofs.Complete.{complete}
use Rattle.grammars.proofs.Texts.{phrase_read, phrase_whole}
use Rattle.cm_conditions.specs.Grammar.{condition}
use Rattle.cm_conditions.specs.Lexemes.{lexemes_of}
use Rattle.cm_conditions.specs.Answers.{ReadsCondition}
use Rattle.cm_conditions.specs.declared.cond.Cond.{Cond}
use Rattle.cm_conditions.specs.declared.lexeme.Lexeme.{Lexeme}
use Rattle.cm_description.specs.Modules.{condition_of, whole_of}
use Rattle.cm_description.specs.Grammar.{allowed}
use Rattle.cm_description.specs.Seen.{IsBad, SaysNot}
use Rattle.cm_description.specs.declared.stop.Stop.{Stop}

-- A text that is a condition has it.
pub condition_some : (text : List ℕ) (cond : Cond) → Phrase (condition 128) (lexemes_of text) None cond
    → condition_of text ≡ Some cond
unfolding condition_of
condition_some text cond p = ap whole_of (phrase_whole (condition 128) (lexemes_of text) cond p)

-- What was read whole is a condition.
is_whole : (o : Out Lexeme Cond) (cond : Cond) → whole_of o ≡ Some cond → o ≡ Out.out (End.whole cond) []
is_whole (Out.out (End.whole c) []) cond h =
    let same : c ≡ cond = cc in ap (λ (x : Cond). Out.out (End.whole x) []) same
is_whole (Out.out (End.whole c) (x ∷ xs)) cond h = absurd (cc)
is_whole (Out.out End.refused rest) cond h = absurd (cc)
is_whole (Out.out End.deep rest) cond h = absurd (cc)

-- A text that has a condition is it.
pub condition_is : (text : List ℕ) (cond : Cond) → condition_of text ≡ Some cond
    → Phrase (condition 128) (lexemes_of text) None cond
unfolding condition_of
condition_is text cond h =
    phrase_read (condition 128) (lexemes_of text) cond (is_whole (read (condition 128) (lexemes_of text)) cond h)

-- A text that is refused, or too deep, has no condition.
none_where : (text : List ℕ) (found : Option Cond) → condition_of text ≡ found
    → ((cond : Cond) → Phrase (condition 128) (lexemes_of text) None cond → ⊥) → condition_of text ≡ None
none_where text None e never = e
none_where text (Some cond) e never = absurd (never cond (condition_is text cond e))

deep_no_phrase : (text : List ℕ) (n : ℕ) → IsTooDeep (condition 128) (lexemes_of text) n → (cond : Cond)
    → Phrase (condition 128) (lexemes_of text) None cond → ⊥
deep_no_phrase text n d cond p =
    let xs = lexemes_of text in
    let deep = ap (read (condition 128)) (sym (take-append-drop n xs))
    ∙ complete (condition 128) End.deep (take n xs) (drop n xs) d.ends in
    let never : ◌≡◌ {A = End Cond} End.deep (End.whole cond) =
    ap end_of (sym deep ∙ phrase_whole (condition 128) xs cond p) in absurd (cc)

pub condition_none : (at : Place) (text : List ℕ) (diag : Diag) → ReadsCondition at text (Err (fault.Diag diag))
    → condition_of text ≡ None
condition_none at text diag (inl (n, is, refused)) = none_where text (condition_of text) refl refused.no_phrase
condition_none at text diag (inr (n, is, deep)) = none_where text (condition_of text) refl (deep_no_phrase text n deep)

-- A text whose reading is refused has no condition that may be said.
pub bad_says : (at : Place) (text : List ℕ) (modules : Bool) (f : Fault) (why : Stop)
    → ReadsCondition at text (Err f) → IsBad f why → SaysNot why (allowed modules (condition_of text))
bad_says at text modules (fault.Diag diag) why is bad =
    subst (λ (w : Stop). SaysNot w (allowed modules (condition_of text))) (sym bad)
    (ap (allowed modules) (condition_none at text diag is))
bad_says at text modules fault.NoMemory why is bad =
    subst (λ (w : Stop). SaysNot w (allowed modules (condition_of text))) (sym bad) tt

pub ruleset condition_steps = (condition_some, condition_none)
