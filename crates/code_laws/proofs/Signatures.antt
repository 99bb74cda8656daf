-- Low plain signature expressions and specifications have a code where their bytes are few enough.
use Rattle.std.proofs.Common.{◌≡◌, ℕ, zero, suc, ◌≤◌, Bool, true, false, ◌&&◌, List, [], ◌∷◌, ◌++◌, map, refl, sym, ap, subst, ◌∙◌, arith}
use Rattle.std.specs.List.{list_all}
use Rattle.cm_bytes.specs.Fields.{list_of}
use Rattle.sml_trees.specs.CoreLets.{all_true}
use Rattle.sml_trees.specs.declared.sig_exp.SigExp.{SigExp, out-SigExp, roll-SigExp, roll-out-SigExp, out-roll-SigExp}
use Rattle.sml_trees.specs.declared.sig_exp.SigExp.TheOpen.{SigExp-F, Spec-F, SigBind-F}
use Rattle.sml_trees.specs.declared.sig_exp.SigExp.TheFolds.{map-SigExp, map-Spec, map-SigBind, fold-roll-SigExp, fold-roll-Spec, fold-roll-SigBind}
use Rattle.sml_trees.specs.declared.sig_exp.Spec.{Spec, out-Spec, roll-Spec, roll-out-Spec, out-roll-Spec}
use Rattle.sml_trees.specs.declared.sig_exp.Spec.TheVariants as specv
use Rattle.sml_trees.specs.declared.sig_exp.SigBind.{SigBind, out-SigBind, roll-SigBind, roll-out-SigBind, out-roll-SigBind}
use Rattle.sml_syntax.specs.Code.{parts, name_of, long_of, ty_of, con_bind_of, dat_bind_of, val_desc_of, typ_desc_of, sig_of, spec_of, sig_bind_of, sig_level, spec_level, sig_bind_level}
use Rattle.sml_syntax.specs.Places.{sig_unplaced, spec_unplaced, sig_bind_unplaced, unplaced_sig, unplaced_spec, unplaced_sig_bind, unplaced_val_desc}
use Rattle.sml_syntax.specs.Reading.{nowhere, IsName, AreAll}
use Rattle.sml_syntax.specs.ReadingBinds.{IsValDesc}
use Rattle.sml_syntax.specs.ReadingSig.{IsSigBind, sig_level_is, spec_level_is, sig_is}
use Rattle.tree_heights.specs.Heights.{highest, val_desc_height, sig_step, spec_step, sig_bind_step, sig_height, spec_height, sig_bind_height}
use Rattle.code_laws.specs.Plain.{Body, plain_of, body_of, sig_plain, spec_plain, sig_bind_plain, plain_sig, plain_spec, plain_sig_bind}
use Rattle.code_laws.proofs.Lists.{Small, Full, small_left, small_right, small_tail, full_left, text_full, Each, each_both, each_low, each_true, and_one, and_two, Reads, list_reads, parts_read, name_reads, names_read, long_reads}
use Rattle.code_laws.proofs.Types.{ty_reads, con_binds_read, dat_binds_read, val_desc_reads, val_desc_full, typ_descs_read}

abbrev LowSig : ℕ → SigExp → Type 0
LowSig n x = (sig_height x ≤ n) × (plain_sig x ≡ true)

abbrev LowSpec : ℕ → Spec → Type 0
LowSpec n x = (spec_height x ≤ n) × (plain_of (plain_spec x) ≡ true)

-- a sequence
abbrev LowBody : ℕ → Spec → Type 0
LowBody n x = (spec_height x ≤ n) × (body_of (plain_spec x) ≡ true)

abbrev LowBind : ℕ → SigBind → Type 0
LowBind n x = (sig_bind_height x ≤ n) × (plain_sig_bind x ≡ true)

-- what is no sequence is no body
pub no_body : (plain : Bool) → plain && false ≡ true → ⊥
no_body true is = absurd (cc)
no_body false is = absurd (cc)

pub record SigRead (n : ℕ) : Type 0 where
  pub sig : Reads sig_of unplaced_sig (LowSig n) (sig_is n).sig
  pub spec : Reads spec_of unplaced_spec (LowSpec n) (sig_is n).spec
  pub body : Reads spec_of unplaced_spec (LowBody n) (sig_is n).spec_body

-- ---- levels, with what is made of their parts

abbrev sig_heights : SigExp-F SigExp Spec SigBind → SigExp-F ℕ ℕ ℕ
sig_heights = map-SigExp _ _ _ _ _ _ sig_height spec_height sig_bind_height

abbrev sig_bytes : SigExp-F SigExp Spec SigBind → SigExp-F (List ℕ) (List ℕ) (List ℕ)
sig_bytes = map-SigExp _ _ _ _ _ _ sig_of spec_of sig_bind_of

abbrev sig_tests : SigExp-F SigExp Spec SigBind → SigExp-F Bool Body Bool
sig_tests = map-SigExp _ _ _ _ _ _ plain_sig plain_spec plain_sig_bind

abbrev sig_bare : SigExp-F SigExp Spec SigBind → SigExp-F SigExp Spec SigBind
sig_bare = map-SigExp _ _ _ _ _ _ unplaced_sig unplaced_spec unplaced_sig_bind

abbrev spec_heights : Spec-F SigExp Spec SigBind → Spec-F ℕ ℕ ℕ
spec_heights = map-Spec _ _ _ _ _ _ sig_height spec_height sig_bind_height

abbrev spec_bytes : Spec-F SigExp Spec SigBind → Spec-F (List ℕ) (List ℕ) (List ℕ)
spec_bytes = map-Spec _ _ _ _ _ _ sig_of spec_of sig_bind_of

abbrev spec_tests : Spec-F SigExp Spec SigBind → Spec-F Bool Body Bool
spec_tests = map-Spec _ _ _ _ _ _ plain_sig plain_spec plain_sig_bind

abbrev spec_bare : Spec-F SigExp Spec SigBind → Spec-F SigExp Spec SigBind
spec_bare = map-Spec _ _ _ _ _ _ unplaced_sig unplaced_spec unplaced_sig_bind

sig_bytes-is : (x : SigExp) → sig_of x ≡ sig_level (sig_bytes (out-SigExp x))
sig_bytes-is x =
    ap sig_of (sym (roll-out-SigExp x)) ∙ fold-roll-SigExp _ _ _ sig_level spec_level sig_bind_level (out-SigExp x)

spec_bytes-is : (x : Spec) → spec_of x ≡ spec_level (spec_bytes (out-Spec x))
spec_bytes-is x =
    ap spec_of (sym (roll-out-Spec x)) ∙ fold-roll-Spec _ _ _ sig_level spec_level sig_bind_level (out-Spec x)

sig_height-is : (x : SigExp) → sig_height x ≡ sig_step (sig_heights (out-SigExp x))
sig_height-is x =
    ap sig_height (sym (roll-out-SigExp x)) ∙ fold-roll-SigExp _ _ _ sig_step spec_step sig_bind_step (out-SigExp x)

spec_height-is : (x : Spec) → spec_height x ≡ spec_step (spec_heights (out-Spec x))
spec_height-is x =
    ap spec_height (sym (roll-out-Spec x)) ∙ fold-roll-Spec _ _ _ sig_step spec_step sig_bind_step (out-Spec x)

sig_plain-is : (x : SigExp) → plain_sig x ≡ sig_plain (sig_tests (out-SigExp x))
sig_plain-is x =
    ap plain_sig (sym (roll-out-SigExp x)) ∙ fold-roll-SigExp _ _ _ sig_plain spec_plain sig_bind_plain (out-SigExp x)

spec_plain-is : (x : Spec) → plain_spec x ≡ spec_plain (spec_tests (out-Spec x))
spec_plain-is x =
    ap plain_spec (sym (roll-out-Spec x)) ∙ fold-roll-Spec _ _ _ sig_plain spec_plain sig_bind_plain (out-Spec x)

spec_full-level : (l : Spec-F SigExp Spec SigBind) → Full (spec_level (spec_bytes l))
spec_full-level (Spec-F.Vals descs at) = omega arith
spec_full-level (Spec-F.Types descs at) = omega arith
spec_full-level (Spec-F.Eqtypes descs at) = omega arith
spec_full-level (Spec-F.Datatypes binds at) = omega arith
spec_full-level (Spec-F.Replication name long at) = omega arith
spec_full-level (Spec-F.Exceptions cons at) = omega arith
spec_full-level (Spec-F.Structures binds at) = omega arith
spec_full-level (Spec-F.Include sig at) = omega arith
spec_full-level (Spec-F.Sequence specs at) = omega arith

spec_full : (x : Spec) → Full (spec_of x)
spec_full x = subst Full (sym (spec_bytes-is x)) (spec_full-level (out-Spec x))

bind_bytes-is : (x : SigBind) → sig_bind_of x ≡ name_of (out-SigBind x).name ++ sig_of (out-SigBind x).sig
bind_bytes-is x =
    ap sig_bind_of (sym (roll-out-SigBind x)) ∙ fold-roll-SigBind _ _ _ sig_level spec_level sig_bind_level (out-SigBind x)

pub sig_bind_full : (x : SigBind) → Full (sig_bind_of x)
sig_bind_full x =
    subst Full (sym (bind_bytes-is x)) (full_left (name_of (out-SigBind x).name) _ (text_full (out-SigBind x).name.text))

-- over what has one level less
module _ (n : ℕ) (below : SigRead n) where
  pub sig_bind_reads : Reads sig_bind_of unplaced_sig_bind (LowBind n) (IsSigBind n (sig_is n))
  sig_bind_reads x (low, plain) small =
      let l = out-SigBind x in
      let few : Small (name_of l.name ++ sig_of l.sig) = subst Small (bind_bytes-is x) small in
      let under : sig_height l.sig ≤ n =
      subst (λ (h : ℕ). h ≤ n) (ap sig_bind_height (sym (roll-out-SigBind x)) ∙ fold-roll-SigBind _ _ _ sig_step spec_step sig_bind_step l) low in
      let test : plain_sig l.sig ≡ true =
      sym (ap plain_sig_bind (sym (roll-out-SigBind x)) ∙ fold-roll-SigBind _ _ _ sig_plain spec_plain sig_bind_plain l) ∙ plain in
      let made : out-SigBind (unplaced_sig_bind x) ≡ sig_bind_unplaced (map-SigBind _ _ _ _ _ _ unplaced_sig unplaced_spec unplaced_sig_bind l) =
      ap (λ (y : SigBind). out-SigBind (unplaced_sig_bind y)) (sym (roll-out-SigBind x))
      ∙ ap out-SigBind (fold-roll-SigBind _ _ _ (λ y. roll-SigExp (sig_unplaced y)) (λ y. roll-Spec (spec_unplaced y)) (λ y. roll-SigBind (sig_bind_unplaced y)) l)
      ∙ out-roll-SigBind (sig_bind_unplaced (map-SigBind _ _ _ _ _ _ unplaced_sig unplaced_spec unplaced_sig_bind l)) in
      subst (λ (f : SigBind-F SigExp Spec SigBind). IsName f.name × (sig_is n).sig f.sig) (sym made) (
        name_reads l.name (small_left (name_of l.name) (sig_of l.sig) few),
        below.sig l.sig (under, test) (small_right (name_of l.name) (sig_of l.sig) few),
      )

  sig_level_reads : (l : SigExp-F SigExp Spec SigBind) → sig_step (sig_heights l) ≤ suc n → sig_plain (sig_tests l) ≡ true
      → Small (sig_level (sig_bytes l)) → sig_level_is n (sig_is n) (sig_unplaced (sig_bare l))
  sig_level_reads (SigExp-F.Sig spec at) low plain small =
      (below.body spec (omega arith, plain) (small_tail 96 (spec_of spec) small), refl)
  sig_level_reads (SigExp-F.Named name at) low plain small = (name_reads name (small_tail 97 (name_of name) small), refl)
  sig_level_reads (SigExp-F.Where sig vars long ty at) low plain small =
      let few = small_tail 98 (sig_of sig ++ (list_of name_of vars ++ (long_of long ++ ty_of ty))) small in
      let rest = small_right (sig_of sig) (list_of name_of vars ++ (long_of long ++ ty_of ty)) few in
      let last = small_right (list_of name_of vars) (long_of long ++ ty_of ty) rest in (
        (
          below.sig sig (omega arith, plain) (small_left (sig_of sig) (list_of name_of vars ++ (long_of long ++ ty_of ty)) few),
          (
            names_read vars (small_left (list_of name_of vars) (long_of long ++ ty_of ty) rest),
            (
              long_reads long (small_left (long_of long) (ty_of ty) last),
              ty_reads n ty (omega arith) (small_right (long_of long) (ty_of ty) last),
            ),
          ),
        ),
        refl,
      )

  specs_read : (specs : List Spec) → highest (map spec_height specs) ≤ n
      → list_all plain_of (map plain_spec specs) ≡ true → Small (parts (map spec_of specs))
      → AreAll (sig_is n).spec (map unplaced_spec specs)
  specs_read specs low plain small =
      parts_read spec_of unplaced_spec (LowSpec n) (sig_is n).spec spec_full below.spec specs
      (each_both (λ x. spec_height x ≤ n) (λ x. plain_of (plain_spec x) ≡ true) specs
      (each_low spec_height n specs low) (each_tested specs plain)) small
    where
      each_tested : (specs : List Spec) → list_all plain_of (map plain_spec specs) ≡ true
          → Each (λ x. plain_of (plain_spec x) ≡ true) specs
      each_tested [] is = tt
      each_tested (x ∷ xs) is =
          let here = plain_of (plain_spec x) in
          let rest = list_all plain_of (map plain_spec xs) in
          (and_one here rest is, each_tested xs (and_two here rest is))

  spec_level_reads : (l : Spec-F SigExp Spec SigBind) → spec_step (spec_heights l) ≤ suc n
      → plain_of (spec_plain (spec_tests l)) ≡ true → Small (spec_level (spec_bytes l))
      → spec_level_is n (sig_is n) (spec_unplaced (spec_bare l))
  spec_level_reads (Spec-F.Vals descs at) low plain small = (
    list_reads val_desc_of unplaced_val_desc (λ x. val_desc_height x ≤ n) (IsValDesc n) val_desc_full (val_desc_reads n)
        descs (each_low val_desc_height n descs (omega arith)) (small_tail 112 (list_of val_desc_of descs) small),
    refl,
  )
  spec_level_reads (Spec-F.Types descs at) low plain small =
      (typ_descs_read n descs (small_tail 113 (list_of typ_desc_of descs) small), refl)
  spec_level_reads (Spec-F.Eqtypes descs at) low plain small =
      (typ_descs_read n descs (small_tail 114 (list_of typ_desc_of descs) small), refl)
  spec_level_reads (Spec-F.Datatypes binds at) low plain small =
      (dat_binds_read n binds (omega arith) (small_tail 115 (list_of dat_bind_of binds) small), refl)
  spec_level_reads (Spec-F.Replication name long at) low plain small =
      let few = small_tail 116 (name_of name ++ long_of long) small in (
        (
          name_reads name (small_left (name_of name) (long_of long) few),
          long_reads long (small_right (name_of name) (long_of long) few),
        ),
        refl,
      )
  spec_level_reads (Spec-F.Exceptions cons at) low plain small =
      (con_binds_read n cons (omega arith) (small_tail 117 (list_of con_bind_of cons) small), refl)
  spec_level_reads (Spec-F.Structures binds at) low plain small = (
    parts_read sig_bind_of unplaced_sig_bind (LowBind n) (IsSigBind n (sig_is n)) sig_bind_full sig_bind_reads binds
        (each_both (λ x. sig_bind_height x ≤ n) (λ x. plain_sig_bind x ≡ true) binds
        (each_low sig_bind_height n binds (omega arith)) (each_true plain_sig_bind binds plain))
        (small_tail 118 (parts (map sig_bind_of binds)) small),
    refl,
  )
  spec_level_reads (Spec-F.Include sig at) low plain small =
      (below.sig sig (omega arith, plain) (small_tail 119 (sig_of sig) small), refl)
  spec_level_reads (Spec-F.Sequence specs at) low plain small = (specs_read specs (omega arith) plain (small_tail 120 (parts (map spec_of specs)) small), refl)

  body_level : (l : Spec-F SigExp Spec SigBind) → spec_step (spec_heights l) ≤ suc n
      → body_of (spec_plain (spec_tests l)) ≡ true → Small (spec_level (spec_bytes l))
      → (sig_is (suc n)).spec_body (roll-Spec (spec_unplaced (spec_bare l)))
  body_level (Spec-F.Vals descs at) low plain small = absurd (no_body true plain)
  body_level (Spec-F.Types descs at) low plain small = absurd (no_body true plain)
  body_level (Spec-F.Eqtypes descs at) low plain small = absurd (no_body true plain)
  body_level (Spec-F.Datatypes binds at) low plain small = absurd (no_body true plain)
  body_level (Spec-F.Replication name long at) low plain small = absurd (no_body true plain)
  body_level (Spec-F.Exceptions cons at) low plain small = absurd (no_body true plain)
  body_level (Spec-F.Structures binds at) low plain small = absurd (no_body (all_true (map plain_sig_bind binds)) plain)
  body_level (Spec-F.Include sig at) low plain small = absurd (no_body (plain_sig sig) plain)
  body_level (Spec-F.Sequence specs at) low plain small = (
    map unplaced_spec specs,
    specv.rolls-Sequence (map unplaced_spec specs) nowhere,
    specs_read specs (omega arith) (and_one (list_all plain_of (map plain_spec specs)) true plain)
        (small_tail 120 (parts (map spec_of specs)) small),
  )

  spec_made : (x : Spec) → unplaced_spec x ≡ roll-Spec (spec_unplaced (spec_bare (out-Spec x)))
  spec_made x =
      ap unplaced_spec (sym (roll-out-Spec x))
      ∙ fold-roll-Spec _ _ _ (λ y. roll-SigExp (sig_unplaced y)) (λ y. roll-Spec (spec_unplaced y)) (λ y. roll-SigBind (sig_bind_unplaced y)) (out-Spec x)

  deeper : SigRead (suc n)
  deeper = record {
    sig = λ x has small.
        let l = out-SigExp x in
        let made : out-SigExp (unplaced_sig x) ≡ sig_unplaced (sig_bare l) =
        ap (λ (y : SigExp). out-SigExp (unplaced_sig y)) (sym (roll-out-SigExp x))
        ∙ ap out-SigExp (fold-roll-SigExp _ _ _ (λ y. roll-SigExp (sig_unplaced y)) (λ y. roll-Spec (spec_unplaced y)) (λ y. roll-SigBind (sig_bind_unplaced y)) l)
        ∙ out-roll-SigExp (sig_unplaced (sig_bare l)) in
        subst (sig_level_is n (sig_is n)) (sym made)
        (sig_level_reads l (subst (λ (h : ℕ). h ≤ suc n) (sig_height-is x) has.0) (sym (sig_plain-is x) ∙ has.1)
        (subst Small (sig_bytes-is x) small));
    spec = λ x has small.
        let l = out-Spec x in
        let made : out-Spec (unplaced_spec x) ≡ spec_unplaced (spec_bare l) =
        ap out-Spec (spec_made x) ∙ out-roll-Spec (spec_unplaced (spec_bare l)) in
        subst (spec_level_is n (sig_is n)) (sym made)
        (spec_level_reads l (subst (λ (h : ℕ). h ≤ suc n) (spec_height-is x) has.0)
        (sym (ap plain_of (spec_plain-is x)) ∙ has.1) (subst Small (spec_bytes-is x) small));
    body = λ x has small.
        subst (sig_is (suc n)).spec_body (sym (spec_made x))
        (body_level (out-Spec x) (subst (λ (h : ℕ). h ≤ suc n) (spec_height-is x) has.0)
        (sym (ap body_of (spec_plain-is x)) ∙ has.1) (subst Small (spec_bytes-is x) small));
  }

sig_tall : (l : SigExp-F SigExp Spec SigBind) → sig_step (sig_heights l) ≤ 0 → ⊥
sig_tall (SigExp-F.Sig spec at) low = omega arith
sig_tall (SigExp-F.Named name at) low = omega arith
sig_tall (SigExp-F.Where sig vars long ty at) low = omega arith

spec_tall : (l : Spec-F SigExp Spec SigBind) → spec_step (spec_heights l) ≤ 0 → ⊥
spec_tall (Spec-F.Vals descs at) low = omega arith
spec_tall (Spec-F.Types descs at) low = omega arith
spec_tall (Spec-F.Eqtypes descs at) low = omega arith
spec_tall (Spec-F.Datatypes binds at) low = omega arith
spec_tall (Spec-F.Replication name long at) low = omega arith
spec_tall (Spec-F.Exceptions cons at) low = omega arith
spec_tall (Spec-F.Structures binds at) low = omega arith
spec_tall (Spec-F.Include sig at) low = omega arith
spec_tall (Spec-F.Sequence specs at) low = omega arith

no_sig : (x : SigExp) → sig_height x ≤ 0 → ⊥
no_sig x low = sig_tall (out-SigExp x) (subst (λ (h : ℕ). h ≤ 0) (sig_height-is x) low)

no_spec : (x : Spec) → spec_height x ≤ 0 → ⊥
no_spec x low = spec_tall (out-Spec x) (subst (λ (h : ℕ). h ≤ 0) (spec_height-is x) low)

pub sig_reads : (n : ℕ) → SigRead n
sig_reads zero = record {
  sig = λ x has small. absurd (no_sig x has.0);
  spec = λ x has small. absurd (no_spec x has.0);
  body = λ x has small. absurd (no_spec x has.0);
}
sig_reads (suc n) = deeper n (sig_reads n)
