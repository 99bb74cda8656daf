-- Lists of parts with their heights, and phrases behind which an `and` of the phrase around may have been taken.
use Rattle.std.proofs.Common.{◌≡◌, ◌⊎◌, List, [], ◌∷◌, ◌++◌, Option, Some, Bool, true, false, refl, sym, ap, ◌∙◌}
use Rattle.std.proofs.lemmas.List.{append_assoc}
use Rattle.grammars.specs.Grammar.{Phrase, head_or, begins}
use Rattle.sml_lexer.specs.declared.lexeme.Lexeme.{Lexeme}
use Rattle.phrase_reading.specs.Sized.{more}
use Rattle.phrase_reading.specs.Words.{g, is}
use Rattle.phrase_reading.specs.declared.tall.Tall.{Tall}
use Rattle.sml_lexer.specs.declared.words.Word.TheVariants as w
use Rattle.signature_parser.specs.Joined.{apart}
use Rattle.signature_parser.specs.declared.joined.Joined.{Joined}
use Rattle.head_laws.proofs.Algebra.{head_both}
use Rattle.joined_laws.specs.Forms.{Form, AreFurther}

-- parts and more of them
abbrev pub mores : {A : Type 0} → Tall (List A) → List (Tall A) → Tall (List A)
mores found [] = found
mores found (part ∷ parts) = mores (more found part) parts

-- further parts behind those
abbrev pub Further : {A : Type 0} → Form (Tall A) → Tall (List A) → Form (Tall (List A))
Further {A} Is found xs next all = (parts : List (Tall A)) × AreFurther Is xs next parts × (all ≡ mores found parts)

-- so the phrase ends: before what doesn't go on with it, or before an `and` that is taken too, before no `type`
abbrev pub Ended : (Lexeme → Bool) → Bool → (List Lexeme → Option Lexeme → Type 0) → List Lexeme → Option Lexeme
    → Type 0
Ended stop false Is xs next = Is xs next × (begins stop next ≡ false)
Ended stop true Is xs next =
    (ys : List Lexeme) × (x : Lexeme) × (xs ≡ ys ++ x ∷ []) × (is w.And x ≡ true) × Is ys (Some x)
    × (begins (is w.TypeWord) next ≡ false)

-- .. what stands before it makes another phrase
pub ended_behind : (stop : Lexeme → Bool) (P Q : List Lexeme → Option Lexeme → Type 0) (us xs : List Lexeme)
    (next : Option Lexeme) (joined : Bool)
    → ((ys : List Lexeme) (after : Option Lexeme) → head_or ys after ≡ head_or xs next → P ys after → Q (us ++ ys)
    after)
    → Ended stop joined P xs next → Ended stop joined Q (us ++ xs) next
ended_behind stop P Q us xs next false go h = (go xs next refl h.0, h.1)
ended_behind stop P Q us xs next true go (ys, x, split, ands, p, stops) = (
  us ++ ys,
  x,
  ap (λ (l : List Lexeme). us ++ l) split ∙ sym (append_assoc us ys (x ∷ [])),
  ands,
  go ys (Some x) (head_both ys (x ∷ []) next ∙ ap (λ (l : List Lexeme). head_or l next) (sym split)) p,
  stops,
)

-- What reads phrases of such a form, behind which an `and` of the phrase around may have been taken.
pub record IsReader {A : Type 0} (each : g (Joined A)) (Is : Form (Tall A)) (stop : Lexeme → Bool) : Type 0 where
  pub into : (xs : List Lexeme) (next : Option Lexeme) (all : Joined A) → Phrase each xs next all
      → Ended stop all.joined (λ ys after. Is ys after all.made) xs next
  -- the last one
  pub last : (xs : List Lexeme) (next : Option Lexeme) (made : Tall A) → Is xs next made
      → begins (is w.And) next ≡ false → begins stop next ≡ false → Phrase each xs next (apart made)
  -- one before an `and`, which is taken or not
  pub more : (xs : List Lexeme) (x : Lexeme) (next : Option Lexeme) (made : Tall A) → Is xs (Some x) made
      → is w.And x ≡ true → begins (is w.TypeWord) next ≡ false
      → Phrase each xs (Some x) (apart made) ⊎ Phrase each (xs ++ x ∷ []) next (record { made = made; joined = true })
