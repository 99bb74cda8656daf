-- How signature expressions and specifications are read, and which of them.
use Rattle.std.specs.Prelude.{◌≡◌, ℕ, zero, suc, List, None}
use Rattle.cm_bytes.specs.Fields.{Step, list_at}
use Rattle.sml_syntax.specs.Steps.{made, both, Table, no_tag, or_tag, tagged}
use Rattle.sml_syntax.specs.Reading.{nowhere, name_at, long_at, IsName, IsLong, AreAll, ty_at, IsTy}
use Rattle.sml_syntax.specs.ReadingBinds.{con_bind_at, IsConBind, dat_bind_at, IsDatBind, val_desc_at, IsValDesc, typ_desc_at, IsTypDesc}
use Rattle.sml_trees.specs.declared.sig_exp.SigExp.{SigExp, out-SigExp}
use Rattle.sml_trees.specs.declared.sig_exp.SigExp.TheOpen.{SigExp-F, Spec-F}
use Rattle.sml_trees.specs.declared.sig_exp.SigExp.TheVariants as sigv
use Rattle.sml_trees.specs.declared.sig_exp.Spec.{Spec, out-Spec}
use Rattle.sml_trees.specs.declared.sig_exp.Spec.TheVariants as specv
use Rattle.sml_trees.specs.declared.sig_exp.SigBind.{SigBind, out-SigBind, roll-SigBind}

-- the steps that read each kind of node
pub record SigSteps : Type 0 where
  pub sig : Step SigExp
  pub spec : Step Spec
  pub spec_body : Step Spec

-- which nodes of each kind they read
pub record SigIs : Type 1 where
  pub sig : SigExp → Type 0
  pub spec : Spec → Type 0
  pub spec_body : Spec → Type 0

unfoldable pub sig_bind_at : ℕ → SigSteps → Step SigBind
sig_bind_at n s = made (λ p. roll-SigBind (record { name = p.0; sig = p.1 })) (both name_at s.sig)

abbrev pub IsSigBind : ℕ → SigIs → SigBind → Type 0
IsSigBind n i bind = (IsName (out-SigBind bind).name × i.sig (out-SigBind bind).sig)

abbrev pub sig_table : ℕ → SigSteps → Table SigExp
sig_table n s =
    or_tag 96 (made (λ p. sigv.Sig p nowhere) s.spec_body) (
    or_tag 97 (made (λ p. sigv.Named p nowhere) name_at) (
    or_tag 98 (made (λ p. sigv.Where p.0 p.1.0 p.1.1.0 p.1.1.1 nowhere) (both s.sig (both (list_at name_at) (both long_at (ty_at n))))) no_tag))

-- a level, where each node within it is one
abbrev pub sig_level_is : ℕ → SigIs → SigExp-F SigExp Spec SigBind → Type 0
sig_level_is n i (SigExp-F.Sig a0 at) = i.spec_body a0 × (at ≡ nowhere)
sig_level_is n i (SigExp-F.Named a0 at) = IsName a0 × (at ≡ nowhere)
sig_level_is n i (SigExp-F.Where a0 a1 a2 a3 at) = (i.sig a0 × ((AreAll IsName) a1 × (IsLong a2 × (IsTy n) a3))) × (at ≡ nowhere)

abbrev pub spec_table : ℕ → SigSteps → Table Spec
spec_table n s =
    or_tag 112 (made (λ p. specv.Vals p nowhere) (list_at (val_desc_at n))) (
    or_tag 113 (made (λ p. specv.Types p nowhere) (list_at (typ_desc_at n))) (
    or_tag 114 (made (λ p. specv.Eqtypes p nowhere) (list_at (typ_desc_at n))) (
    or_tag 115 (made (λ p. specv.Datatypes p nowhere) (list_at (dat_bind_at n))) (
    or_tag 116 (made (λ p. specv.Replication p.0 p.1 nowhere) (both name_at long_at)) (
    or_tag 117 (made (λ p. specv.Exceptions p nowhere) (list_at (con_bind_at n))) (
    or_tag 118 (made (λ p. specv.Structures p nowhere) (list_at (sig_bind_at n s))) (
    or_tag 119 (made (λ p. specv.Include p nowhere) s.sig) (
    or_tag 120 (made (λ p. specv.Sequence p nowhere) (list_at s.spec)) no_tag))))))))

-- a level, where each node within it is one
abbrev pub spec_level_is : ℕ → SigIs → Spec-F SigExp Spec SigBind → Type 0
spec_level_is n i (Spec-F.Vals a0 at) = (AreAll (IsValDesc n)) a0 × (at ≡ nowhere)
spec_level_is n i (Spec-F.Types a0 at) = (AreAll (IsTypDesc n)) a0 × (at ≡ nowhere)
spec_level_is n i (Spec-F.Eqtypes a0 at) = (AreAll (IsTypDesc n)) a0 × (at ≡ nowhere)
spec_level_is n i (Spec-F.Datatypes a0 at) = (AreAll (IsDatBind n)) a0 × (at ≡ nowhere)
spec_level_is n i (Spec-F.Replication a0 a1 at) = (IsName a0 × IsLong a1) × (at ≡ nowhere)
spec_level_is n i (Spec-F.Exceptions a0 at) = (AreAll (IsConBind n)) a0 × (at ≡ nowhere)
spec_level_is n i (Spec-F.Structures a0 at) = (AreAll (IsSigBind n i)) a0 × (at ≡ nowhere)
spec_level_is n i (Spec-F.Include a0 at) = i.sig a0 × (at ≡ nowhere)
spec_level_is n i (Spec-F.Sequence a0 at) = (AreAll i.spec) a0 × (at ≡ nowhere)

-- what is read after the tag of a body, which is a sequence
abbrev pub spec_body_table : SigSteps → Table Spec
spec_body_table s = or_tag 120 (made (λ p. specv.Sequence p nowhere) (list_at s.spec)) no_tag

-- the steps that read nodes of at most so many tags in one another
abbrev pub sig_steps : ℕ → SigSteps
sig_steps zero = record { sig = λ bytes. None; spec = λ bytes. None; spec_body = λ bytes. None }
sig_steps (suc n) = record {
  sig = tagged (sig_table n (sig_steps n));
  spec = tagged (spec_table n (sig_steps n));
  spec_body = tagged (spec_body_table (sig_steps n));
}

-- which nodes have a spelling of at most so many tags in one another, and stand nowhere
abbrev pub sig_is : ℕ → SigIs
sig_is zero = record { sig = λ x. ⊥; spec = λ x. ⊥; spec_body = λ x. ⊥ }
sig_is (suc n) = record {
  sig = λ x. sig_level_is n (sig_is n) (out-SigExp x);
  spec = λ x. spec_level_is n (sig_is n) (out-Spec x);
  spec_body = λ x. (xs : List Spec) × (x ≡ specv.Sequence xs nowhere) × AreAll (sig_is n).spec xs;
}
