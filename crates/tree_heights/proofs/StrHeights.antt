-- The heights of one form of a structure expression or of a declaration in one, by those of its parts.
use Rattle.std.proofs.Common.{◌≡◌, ℕ, suc, max, Bool, true, false, List, [], ◌∷◌, Option, Some, None, if◌then◌else◌, refl, sym, ap, ap₂, ◌∙◌, map, flat_map}
use Rattle.sml_trees.specs.declared.name.At.{At}
use Rattle.sml_trees.specs.declared.name.Name.{Name}
use Rattle.sml_trees.specs.declared.name.LongName.{LongName}
use Rattle.sml_trees.specs.declared.full_sig.FullSigExp.{FullSigExp}
use Rattle.sml_trees.specs.declared.full_sig.FullSeal.{FullSeal}
use Rattle.sml_trees.specs.declared.full_exp.FullDec.{FullDec}
use Rattle.sml_trees.specs.declared.full_str.FullStrDec.{FullStrDec}
use Rattle.sml_trees.specs.declared.full_str.FullStrDec.TheVariants as wdec
use Rattle.sml_trees.specs.declared.full_str.FullStrExp.{FullStrExp}
use Rattle.sml_trees.specs.declared.full_str.FullStrExp.TheVariants as wstr
use Rattle.sml_trees.specs.declared.full_str.FullStrBind.{FullStrBind, out-FullStrBind}
use Rattle.sml_trees.specs.declared.exp.Dec.{Dec}
use Rattle.sml_trees.specs.declared.exp.StrExp.TheVariants as str
use Rattle.bare_forms.specs.declared.placed.PlacedStr.{PlacedStr}
use Rattle.bare_forms.specs.Signatures.{bare_sig}
use Rattle.bare_forms.specs.Expressions.{PlacedDec, placed_dec, decs_of, sequence_dec}
use Rattle.bare_forms.specs.Structures.{sealed, bare_str_dec, bare_str, bare_str_bind}
use Rattle.bare_forms.proofs.StrLevels.{bare_str_dec-Core, bare_str_dec-Structures, bare_str_dec-Local, bare_str-Struct, bare_str-Named, bare_str-Transparent, bare_str-Opaque, bare_str-Functor, bare_str-FunctorOfDecs, bare_str-Within, bare_str_bind-kept}
use Rattle.tree_heights.specs.Heights.{highest, dec_height, str_height, sig_height, str_bind_height}
use Rattle.tree_heights.specs.FullSigHeights.{full_sig}
use Rattle.tree_heights.specs.FullExpHeights.{full_dec}
use Rattle.tree_heights.specs.FullUnitHeights.{full_str_dec, str_decs_height, full_str, seal_height, full_str_bind}
use Rattle.tree_heights.proofs.Highest.{alone, map-map, grouped}
use Rattle.tree_heights.proofs.NodeForms as node

decs-height : (at : At) (decs : List FullStrDec)
    → dec_height (sequence_dec at (map bare_str_dec decs)) ≡ str_decs_height decs
unfolding full_str_dec
decs-height at decs =
    node.dec_height-Sequence (flat_map decs_of (map bare_str_dec decs)) at
    ∙ ap suc (grouped dec_height decs_of (map bare_str_dec decs) 0
    ∙ ap highest (map-map (λ d. highest (map dec_height (decs_of d))) bare_str_dec decs))

-- ---- declarations

-- the height of the one declaration that it becomes
made_dec : (d : FullStrDec) (at : At) (only : Dec) (height : ℕ) → bare_str_dec d ≡ placed_dec at (only ∷ [])
    → dec_height only ≡ height → full_str_dec d ≡ height
unfolding full_str_dec
made_dec d at only height is deep =
    ap (λ (p : PlacedDec). highest (map dec_height p.decs)) is ∙ alone (dec_height only) ∙ deep

pub full_str_dec-Core : (each : FullDec) → full_str_dec (wdec.Core each) ≡ full_dec each
unfolding full_str_dec full_dec
full_str_dec-Core each = ap (λ (p : PlacedDec). highest (map dec_height p.decs)) (bare_str_dec-Core each)

pub full_str_dec-Structures : (binds : List FullStrBind) (at : At)
    → full_str_dec (wdec.Structures binds at) ≡ suc (highest (map full_str_bind binds))
unfolding full_str_bind
full_str_dec-Structures binds at =
    made_dec _ at _ _ (bare_str_dec-Structures binds at) (node.dec_height-Structures (map bare_str_bind binds) at
    ∙ ap (λ hs. suc (highest hs)) (map-map str_bind_height bare_str_bind binds))

pub full_str_dec-Local : (hidden decs : List FullStrDec) (at : At)
    → full_str_dec (wdec.Local hidden decs at) ≡ suc (max (str_decs_height hidden) (str_decs_height decs))
full_str_dec-Local hidden decs at =
    made_dec _ at _ _ (bare_str_dec-Local hidden decs at)
    (node.dec_height-Local (sequence_dec at (map bare_str_dec hidden)) (sequence_dec at (map bare_str_dec decs)) at
    ∙ ap₂ (λ a b. suc (max a b)) (decs-height at hidden) (decs-height at decs))

pub ruleset str_dec_forms = (full_str_dec-Core, full_str_dec-Structures, full_str_dec-Local)

-- ---- structure expressions

made_str : (s : FullStrExp) (p : PlacedStr) (height : ℕ) → bare_str s ≡ p → str_height p.str ≡ height
    → full_str s ≡ height
unfolding full_str
made_str s p height is deep = ap (λ (q : PlacedStr). str_height q.str) is ∙ deep

struct-height : (at : At) (decs : List FullStrDec)
    → str_height (str.Struct (sequence_dec at (map bare_str_dec decs)) at) ≡ suc (str_decs_height decs)
struct-height at decs =
    node.str_height-Struct (sequence_dec at (map bare_str_dec decs)) at ∙ ap suc (decs-height at decs)

pub full_str-Struct : (decs : List FullStrDec) (at : At)
    → full_str (wstr.Struct decs at) ≡ suc (str_decs_height decs)
full_str-Struct decs at = made_str _ _ _ (bare_str-Struct decs at) (struct-height at decs)

pub full_str-Named : (long : LongName) (at : At) → full_str (wstr.Named long at) ≡ 1
full_str-Named long at = made_str _ _ _ (bare_str-Named long at) (node.str_height-Named long at)

pub full_str-Transparent : (inner : FullStrExp) (g : FullSigExp) (at : At)
    → full_str (wstr.Transparent inner g at) ≡ suc (max (full_str inner) (full_sig g))
unfolding full_str full_sig
full_str-Transparent inner g at =
    made_str _ _ _ (bare_str-Transparent inner g at) (node.str_height-Transparent (bare_str inner).str (bare_sig g) at)

pub full_str-Opaque : (inner : FullStrExp) (g : FullSigExp) (at : At)
    → full_str (wstr.Opaque inner g at) ≡ suc (max (full_str inner) (full_sig g))
unfolding full_str full_sig
full_str-Opaque inner g at =
    made_str _ _ _ (bare_str-Opaque inner g at) (node.str_height-Opaque (bare_str inner).str (bare_sig g) at)

pub full_str-Functor : (name : Name) (arg : FullStrExp) (at : At)
    → full_str (wstr.Functor name arg at) ≡ suc (full_str arg)
unfolding full_str
full_str-Functor name arg at =
    made_str _ _ _ (bare_str-Functor name arg at) (node.str_height-Functor name (bare_str arg).str at)

pub full_str-FunctorOfDecs : (name : Name) (decs : List FullStrDec) (begin at : At)
    → full_str (wstr.FunctorOfDecs name decs begin at) ≡ suc (suc (str_decs_height decs))
full_str-FunctorOfDecs name decs begin at =
    made_str _ _ _ (bare_str-FunctorOfDecs name decs begin at)
    (node.str_height-Functor name _ at ∙ ap suc (struct-height begin decs))

pub full_str-Within : (decs : List FullStrDec) (inner : FullStrExp) (at : At)
    → full_str (wstr.Within decs inner at) ≡ suc (max (str_decs_height decs) (full_str inner))
unfolding full_str
full_str-Within decs inner at =
    made_str _ _ _ (bare_str-Within decs inner at)
    (node.str_height-Within (sequence_dec at (map bare_str_dec decs)) (bare_str inner).str at
    ∙ ap (λ h. suc (max h (str_height (bare_str inner).str))) (decs-height at decs))

pub ruleset str_forms = (
  full_str-Struct,
  full_str-Named,
  full_str-Transparent,
  full_str-Opaque,
  full_str-Functor,
  full_str-FunctorOfDecs,
  full_str-Within,
)

-- ---- bindings

seal-cases : (b : Bool) (g : FullSigExp) (body : PlacedStr)
    → str_height (if b then str.Opaque body.str (bare_sig g) body.at else str.Transparent body.str (bare_sig g) body.at)
    ≡ suc (max (str_height body.str) (sig_height (bare_sig g)))
seal-cases true g body = node.str_height-Opaque body.str (bare_sig g) body.at
seal-cases false g body = node.str_height-Transparent body.str (bare_sig g) body.at

pub seal-height : (seal : Option FullSeal) (body : FullStrExp)
    → str_height (sealed seal (bare_str body)) ≡ seal_height seal (full_str body)
unfolding full_str full_sig
seal-height None body = refl
seal-height (Some seal) body = seal-cases seal.opaque seal.sig (bare_str body)

pub full_str_bind-kept : (bind : FullStrBind)
    → full_str_bind bind ≡ seal_height (out-FullStrBind bind).seal (full_str (out-FullStrBind bind).body)
unfolding full_str_bind
full_str_bind-kept bind =
    ap str_bind_height (bare_str_bind-kept bind)
    ∙ node.str_bind-height (out-FullStrBind bind).name (sealed (out-FullStrBind bind).seal (bare_str (out-FullStrBind bind).body))
    ∙ seal-height (out-FullStrBind bind).seal (out-FullStrBind bind).body

pub ruleset str_bind_form = (full_str_bind-kept)
