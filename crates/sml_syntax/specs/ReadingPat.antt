-- How patterns are read, and which of them.
use Rattle.std.specs.Prelude.{◌≡◌, ℕ, zero, suc, None}
use Rattle.cm_bytes.specs.Fields.{Step, byte_at, text_at, list_at}
use Rattle.sml_syntax.specs.Steps.{made, both, Table, no_tag, or_tag, tagged, nothing_at, option_at}
use Rattle.sml_syntax.specs.Reading.{nowhere, name_at, long_at, int_at, IsShort, IsInt, IsByte, IsName, IsLong, AreAll, IfThere, ty_at, IsTy}
use Rattle.sml_trees.specs.declared.pat.Pat.{Pat, out-Pat}
use Rattle.sml_trees.specs.declared.pat.Pat.TheOpen.{Pat-F}
use Rattle.sml_trees.specs.declared.pat.Pat.TheVariants as pat
use Rattle.sml_trees.specs.declared.pat.PatField.{PatField, out-PatField, roll-PatField}

-- the steps that read each kind of node
pub record PatSteps : Type 0 where
  pub pat : Step Pat

-- which nodes of each kind they read
pub record PatIs : Type 1 where
  pub pat : Pat → Type 0

unfoldable pub pat_field_at : ℕ → PatSteps → Step PatField
pat_field_at n s = made (λ p. roll-PatField (record { label = p.0; pat = p.1 })) (both name_at s.pat)

abbrev pub IsPatField : ℕ → PatIs → PatField → Type 0
IsPatField n i bind = (IsName (out-PatField bind).label × i.pat (out-PatField bind).pat)

abbrev pub pat_table : ℕ → PatSteps → Table Pat
pat_table n s =
    or_tag 32 (made (λ p. pat.Wild nowhere) nothing_at) (
    or_tag 33 (made (λ p. pat.Int p nowhere) int_at) (
    or_tag 34 (made (λ p. pat.Str p nowhere) text_at) (
    or_tag 35 (made (λ p. pat.Char p nowhere) byte_at) (
    or_tag 36 (made (λ p. pat.Long p nowhere) long_at) (
    or_tag 37 (made (λ p. pat.Record p nowhere) (list_at (pat_field_at n s))) (
    or_tag 38 (made (λ p. pat.Con p.0 p.1 nowhere) (both long_at s.pat)) (
    or_tag 39 (made (λ p. pat.Typed p.0 p.1 nowhere) (both s.pat (ty_at n))) (
    or_tag 40 (made (λ p. pat.As p.0 p.1.0 p.1.1 nowhere) (both name_at (both (option_at (ty_at n)) s.pat))) no_tag))))))))

-- a level, where each node within it is one
abbrev pub pat_level_is : ℕ → PatIs → Pat-F Pat PatField → Type 0
pat_level_is n i (Pat-F.Wild at) = (at ≡ nowhere)
pat_level_is n i (Pat-F.Int a0 at) = IsInt a0 × (at ≡ nowhere)
pat_level_is n i (Pat-F.Str a0 at) = IsShort a0 × (at ≡ nowhere)
pat_level_is n i (Pat-F.Char a0 at) = IsByte a0 × (at ≡ nowhere)
pat_level_is n i (Pat-F.Long a0 at) = IsLong a0 × (at ≡ nowhere)
pat_level_is n i (Pat-F.Record a0 at) = (AreAll (IsPatField n i)) a0 × (at ≡ nowhere)
pat_level_is n i (Pat-F.Con a0 a1 at) = (IsLong a0 × i.pat a1) × (at ≡ nowhere)
pat_level_is n i (Pat-F.Typed a0 a1 at) = (i.pat a0 × (IsTy n) a1) × (at ≡ nowhere)
pat_level_is n i (Pat-F.As a0 a1 a2 at) = (IsName a0 × ((IfThere (IsTy n)) a1 × i.pat a2)) × (at ≡ nowhere)

-- the steps that read nodes of at most so many tags in one another
abbrev pub pat_steps : ℕ → PatSteps
pat_steps zero = record { pat = λ bytes. None }
pat_steps (suc n) = record {
  pat = tagged (pat_table n (pat_steps n));
}

-- which nodes have a spelling of at most so many tags in one another, and stand nowhere
abbrev pub pat_is : ℕ → PatIs
pat_is zero = record { pat = λ x. ⊥ }
pat_is (suc n) = record {
  pat = λ x. pat_level_is n (pat_is n) (out-Pat x);
}
