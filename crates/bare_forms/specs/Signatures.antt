-- Signature expressions and specifications without their derived forms.
use Rattle.std.specs.Prelude.{Bool, List, [], ◌∷◌, ◌++◌, map, Option, Some, None, if◌then◌else◌, true, false}
use Rattle.std.specs.List.{flat_map}
use Rattle.sml_trees.specs.declared.name.At.{At}
use Rattle.sml_trees.specs.declared.name.Name.{Name}
use Rattle.sml_trees.specs.declared.full_ty.FullTy.{FullTy}
use Rattle.sml_trees.specs.declared.full_ty.FullTypDesc.{FullTypDesc}
use Rattle.sml_trees.specs.declared.full_sig.FullSigExp.{FullSigExp}
use Rattle.sml_trees.specs.declared.full_sig.FullSigExp.TheOpen.{FullSigExp-F, FullSpec-F, FullSigBind-F}
use Rattle.sml_trees.specs.declared.full_sig.FullSigExp.TheFolds.{fold-FullSigExp, fold-FullSpec, fold-FullSigBind}
use Rattle.sml_trees.specs.declared.full_sig.FullSpec.{FullSpec}
use Rattle.sml_trees.specs.declared.full_sig.FullSigBind.{FullSigBind}
use Rattle.sml_trees.specs.declared.full_sig.FullWhere.{FullWhere}
use Rattle.sml_trees.specs.declared.ty.TypDesc.{TypDesc}
use Rattle.sml_trees.specs.declared.sig_exp.SigExp.{SigExp}
use Rattle.sml_trees.specs.declared.sig_exp.SigExp.TheVariants as sig
use Rattle.sml_trees.specs.declared.sig_exp.Spec.{Spec}
use Rattle.sml_trees.specs.declared.sig_exp.Spec.TheVariants as spec
use Rattle.sml_trees.specs.declared.sig_exp.SigBind.{SigBind, roll-SigBind}
use Rattle.bare_forms.specs.Types.{bare_ty, plain_desc, bare_con_bind, bare_dat_bind, bare_val_desc}
use Rattle.bare_forms.specs.Patterns.{at_name, long_name}

-- ---- `where type`

-- The Definition, Appendix A, signature expressions: `sigexp where type .. and type ..` is
-- `(sigexp where type ..) where type ..`; the first is innermost
abbrev pub where_sig : At → SigExp → List FullWhere → SigExp
where_sig at inner [] = inner
where_sig at inner (w ∷ ws) = where_sig at (sig.Where inner w.tyvars w.long (bare_ty w.ty) at) ws

-- ---- specifications of types

-- `type desc` alone, and a signature of nothing else
abbrev pub one_type : At → TypDesc → Spec
one_type at desc = spec.Types (desc ∷ []) at

abbrev pub type_sig : At → TypDesc → SigExp
type_sig at desc = sig.Sig (spec.Sequence (one_type at desc ∷ []) at) at

-- a specification of one type. The Definition, Appendix A, specifications: `type tyvars tycon = ty` is
-- `include sig type tyvars tycon end where type tyvars tycon = ty`
abbrev pub single_spec : At → TypDesc → Option FullTy → Spec
single_spec at desc None = one_type at desc
single_spec at desc (Some ty) =
    spec.Include (sig.Where (type_sig at desc) desc.tyvars (long_name desc.name) (bare_ty ty) at) at

abbrev pub single_of : At → FullTypDesc → Spec
single_of at desc = single_spec at (plain_desc desc) desc.ty

abbrev pub stands_for : Option FullTy → Bool → Bool
stands_for (Some ty) others = true
stands_for None others = others

-- whether one of the types stands for another
abbrev pub has_type : List FullTypDesc → Bool
has_type [] = false
has_type (desc ∷ descs) = stands_for desc.ty (has_type descs)

-- The Definition, Appendix A, specifications: `type .. = ty and ..` is `type .. = ty type ..`, one by one as soon as
-- one of them stands for a type
abbrev pub type_specs : At → List FullTypDesc → List Spec
type_specs at descs =
    if has_type descs then map (single_of at) descs else (spec.Types (map plain_desc descs) at ∷ [])

-- ---- `include`

-- The Definition, Appendix A, specifications: `include sigid1 .. sigidn` is `include sigid1; ..; include sigidn`. The
-- first begins at the word, and the others at their names.
abbrev pub include_name : At → Name → Spec
include_name at name = spec.Include (sig.Named name (at_name name)) at

abbrev pub other_include : Name → Spec
other_include name = include_name (at_name name) name

abbrev pub include_names : At → List Name → List Spec
include_names at [] = []
include_names at (name ∷ names) = include_name at name ∷ map other_include names

-- ---- levels

-- the body of a signature is a sequence, which stands where the signature stands
abbrev pub sig_of : At → List (List Spec) → SigExp
sig_of at specs = sig.Sig (spec.Sequence (flat_map (λ each. each) specs) at) at

abbrev pub sig_level : FullSigExp-F SigExp (List Spec) SigBind → SigExp
sig_level (FullSigExp-F.Sig specs at) = sig_of at specs
sig_level (FullSigExp-F.Named name at) = sig.Named name at
sig_level (FullSigExp-F.Where inner wheres at) = where_sig at inner wheres

abbrev pub spec_level : FullSpec-F SigExp (List Spec) SigBind → List Spec
spec_level (FullSpec-F.Vals descs at) = spec.Vals (map bare_val_desc descs) at ∷ []
spec_level (FullSpec-F.Types descs at) = type_specs at descs
spec_level (FullSpec-F.Eqtypes descs at) = spec.Eqtypes descs at ∷ []
spec_level (FullSpec-F.Datatypes binds at) = spec.Datatypes (map bare_dat_bind binds) at ∷ []
spec_level (FullSpec-F.Replication name long at) = spec.Replication name long at ∷ []
spec_level (FullSpec-F.Exceptions cons at) = spec.Exceptions (map bare_con_bind cons) at ∷ []
spec_level (FullSpec-F.Structures binds at) = spec.Structures binds at ∷ []
spec_level (FullSpec-F.IncludeNames names at) = include_names at names
spec_level (FullSpec-F.Include inner at) = spec.Include inner at ∷ []

abbrev pub sig_bind_level : FullSigBind-F SigExp (List Spec) SigBind → SigBind
sig_bind_level bind = roll-SigBind (record { name = bind.name; sig = bind.sig })

-- the bare signature expression of one that is written
abbrev pub bare_sig : FullSigExp → SigExp
bare_sig = fold-FullSigExp SigExp (List Spec) SigBind sig_level spec_level sig_bind_level

-- the bare specifications of one that is written
abbrev pub bare_spec : FullSpec → List Spec
bare_spec = fold-FullSpec SigExp (List Spec) SigBind sig_level spec_level sig_bind_level

abbrev pub bare_sig_bind : FullSigBind → SigBind
bare_sig_bind = fold-FullSigBind SigExp (List Spec) SigBind sig_level spec_level sig_bind_level
