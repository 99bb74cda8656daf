-- Structures as they are written, with functions behind `rec` alone, become phrases in which it is so.
use Rattle.std.proofs.Common.{◌≡◌, List, map, flat_map, Option, Some, None, Bool, true, false, if◌then◌else◌, sym, ◌∙◌, subst}
use Rattle.std.specs.List.{list_all}
use Rattle.sml_trees.specs.declared.full_sig.FullSeal.{FullSeal}
use Rattle.sml_trees.specs.declared.full_sig.FullSigExp.{FullSigExp}
use Rattle.sml_trees.specs.declared.full_str.FullStrBind.{FullStrBind, roll-FullStrBind}
use Rattle.sml_trees.specs.declared.full_str.FullStrDec.{FullStrDec, roll-FullStrDec}
use Rattle.sml_trees.specs.declared.full_str.FullStrExp.{FullStrExp, roll-FullStrExp}
use Rattle.sml_trees.specs.declared.full_str.FullStrDec.TheOpen.{FullStrDec-F, FullStrExp-F, FullStrBind-F}
use Rattle.sml_trees.specs.declared.full_str.FullStrDec.TheFolds.{map-FullStrDec, map-FullStrExp, map-FullStrBind, fold-roll-FullStrDec, fold-roll-FullStrExp, fold-roll-FullStrBind, ind-FullStrExp, ind-FullStrBind}
use Rattle.sml_trees.specs.declared.exp.StrExp.TheVariants as str
use Rattle.bare_forms.specs.declared.placed.PlacedStr.{PlacedStr}
use Rattle.bare_forms.specs.Signatures.{bare_sig}
use Rattle.bare_forms.specs.Expressions.{PlacedDec, decs_of, sequence_dec, bare_dec}
use Rattle.bare_forms.specs.Structures.{sealed, str_dec_level, str_level, str_bind_level, bare_str_dec, bare_str, bare_str_bind}
use Rattle.static_semantics.specs.Holding.{AllItems}
use Rattle.recursion_laws.specs.Functions.{str_dec_step, str_step, str_bind_step, str_dec_binds, str_binds, str_bind_binds}
use Rattle.recursion_laws.proofs.Forms.{first_true, second_true}
use Rattle.recursion_laws.proofs.Exps.{passes}
use Rattle.bare_functions.proofs.Nodes.{items_flat, HasM, HasS, HasB, as_modules, has-bind, module-Sequence, module-Local, module-Structures, has-Struct, has-Named, has-Transparent, has-Opaque, has-Functor, has-Within}
use Rattle.bare_functions.proofs.Core.{dec_is, each_of}

abbrev StrDecIs : FullStrDec → Type 0
StrDecIs d = str_dec_binds d ≡ true → AllItems HasM (bare_str_dec d).decs

abbrev pub StrIs : FullStrExp → Type 0
StrIs s = str_binds s ≡ true → HasS (bare_str s).str

abbrev pub BindIs : FullStrBind → Type 0
BindIs bind = str_bind_binds bind ≡ true → HasB (bare_str_bind bind)

abbrev HeldDec : Type 0
HeldDec = (x : FullStrDec) × StrDecIs x

abbrev HeldStr : Type 0
HeldStr = (x : FullStrExp) × StrIs x

abbrev HeldBind : Type 0
HeldBind = (x : FullStrBind) × BindIs x

decs_have : (held : List HeldDec) → list_all passes (map str_dec_binds (map (λ h. h.0) held)) ≡ true
    → AllItems HasM (flat_map decs_of (map bare_str_dec (map (λ h. h.0) held)))
decs_have held all = items_flat HasM decs_of (map bare_str_dec (map (λ h. h.0) held))
    (each_of passes str_dec_binds (λ d. AllItems HasM (decs_of d)) bare_str_dec (λ x q h. q h) held all)

binds_have : (held : List HeldBind) → list_all passes (map str_bind_binds (map (λ h. h.0) held)) ≡ true
    → AllItems HasB (map bare_str_bind (map (λ h. h.0) held))
binds_have held all = each_of passes str_bind_binds HasB bare_str_bind (λ x q h. q h) held all

sealed_if : (b : Bool) (g : FullSigExp) (body : PlacedStr) → HasS body.str
    → HasS (if b then str.Opaque body.str (bare_sig g) body.at else str.Transparent body.str (bare_sig g) body.at)
sealed_if true g body is = has-Opaque body.str (bare_sig g) body.at is
sealed_if false g body is = has-Transparent body.str (bare_sig g) body.at is

pub has-sealed : (seal : Option FullSeal) (body : PlacedStr) → HasS body.str → HasS (sealed seal body)
has-sealed None body is = is
has-sealed (Some seal) body is = sealed_if seal.opaque seal.sig body is

str_parts : (y : FullStrExp-F HeldDec HeldStr HeldBind) → str_step (map-FullStrExp _ _ _ _ _ _ str_dec_binds str_binds str_bind_binds (map-FullStrExp _ _ _ _ _ _ (λ h. h.0) (λ h. h.0) (λ h. h.0) y)) ≡ true → HasS (str_level (map-FullStrExp _ _ _ _ _ _ bare_str_dec bare_str bare_str_bind (map-FullStrExp _ _ _ _ _ _ (λ h. h.0) (λ h. h.0) (λ h. h.0) y))).str
str_parts (FullStrExp-F.Struct decs at) h =
    has-Struct (sequence_dec at (map bare_str_dec (map (λ h. h.0) decs))) at
    (module-Sequence (flat_map decs_of (map bare_str_dec (map (λ h. h.0) decs))) at (decs_have decs h))
str_parts (FullStrExp-F.Named long at) h = has-Named long at
str_parts (FullStrExp-F.Transparent inner g at) h = has-Transparent (bare_str inner.0).str (bare_sig g) at (inner.1 h)
str_parts (FullStrExp-F.Opaque inner g at) h = has-Opaque (bare_str inner.0).str (bare_sig g) at (inner.1 h)
str_parts (FullStrExp-F.Functor name arg at) h = has-Functor name (bare_str arg.0).str at (arg.1 h)
str_parts (FullStrExp-F.FunctorOfDecs name decs begin at) h =
    let inner = sequence_dec begin (map bare_str_dec (map (λ h. h.0) decs)) in
    has-Functor name (str.Struct inner begin) at (has-Struct inner begin
    (module-Sequence (flat_map decs_of (map bare_str_dec (map (λ h. h.0) decs))) begin (decs_have decs h)))
str_parts (FullStrExp-F.Within decs inner at) h =
    let first = list_all passes (map str_dec_binds (map (λ h. h.0) decs)) in
    has-Within (sequence_dec at (map bare_str_dec (map (λ h. h.0) decs))) (bare_str inner.0).str at
    (module-Sequence (flat_map decs_of (map bare_str_dec (map (λ h. h.0) decs))) at
    (decs_have decs (first_true first (str_binds inner.0) h)))
    (inner.1 (second_true first (str_binds inner.0) h))

str_dec_parts : (y : FullStrDec-F HeldDec HeldStr HeldBind) → str_dec_step (map-FullStrDec _ _ _ _ _ _ str_dec_binds str_binds str_bind_binds (map-FullStrDec _ _ _ _ _ _ (λ h. h.0) (λ h. h.0) (λ h. h.0) y)) ≡ true → AllItems HasM (str_dec_level (map-FullStrDec _ _ _ _ _ _ bare_str_dec bare_str bare_str_bind (map-FullStrDec _ _ _ _ _ _ (λ h. h.0) (λ h. h.0) (λ h. h.0) y))).decs
str_dec_parts (FullStrDec-F.Core each) h = as_modules (bare_dec each).decs (dec_is each h)
str_dec_parts (FullStrDec-F.Structures binds at) h =
    (module-Structures (map bare_str_bind (map (λ h. h.0) binds)) at (binds_have binds h), tt)
str_dec_parts (FullStrDec-F.Local hidden decs at) h =
    let first = list_all passes (map str_dec_binds (map (λ h. h.0) hidden)) in
    let second = list_all passes (map str_dec_binds (map (λ h. h.0) decs)) in (
      module-Local (sequence_dec at (map bare_str_dec (map (λ h. h.0) hidden))) (sequence_dec at (map bare_str_dec (map (λ h. h.0) decs))) at
          (module-Sequence (flat_map decs_of (map bare_str_dec (map (λ h. h.0) hidden))) at (decs_have hidden (first_true first second h)))
          (module-Sequence (flat_map decs_of (map bare_str_dec (map (λ h. h.0) decs))) at (decs_have decs (second_true first second h))),
      tt,
    )

str_dec_step_is : (x : FullStrDec-F FullStrDec FullStrExp FullStrBind) (y : FullStrDec-F HeldDec HeldStr HeldBind) → map-FullStrDec _ _ _ _ _ _ (λ h. h.0) (λ h. h.0) (λ h. h.0) y ≡ x → StrDecIs (roll-FullStrDec x)
unfolding str_dec_binds str_binds str_bind_binds bare_str_dec bare_str bare_str_bind
str_dec_step_is x y is = subst (λ (z : FullStrDec-F FullStrDec FullStrExp FullStrBind). StrDecIs (roll-FullStrDec z)) is (λ h. subst (λ (d : PlacedDec). AllItems HasM d.decs) (sym (fold-roll-FullStrDec _ _ _ str_dec_level str_level str_bind_level (map-FullStrDec _ _ _ _ _ _ (λ h. h.0) (λ h. h.0) (λ h. h.0) y))) (str_dec_parts y (sym (fold-roll-FullStrDec _ _ _ str_dec_step str_step str_bind_step (map-FullStrDec _ _ _ _ _ _ (λ h. h.0) (λ h. h.0) (λ h. h.0) y)) ∙ h)))

str_step_is : (x : FullStrExp-F FullStrDec FullStrExp FullStrBind) (y : FullStrExp-F HeldDec HeldStr HeldBind) → map-FullStrExp _ _ _ _ _ _ (λ h. h.0) (λ h. h.0) (λ h. h.0) y ≡ x → StrIs (roll-FullStrExp x)
unfolding str_dec_binds str_binds str_bind_binds bare_str_dec bare_str bare_str_bind
str_step_is x y is = subst (λ (z : FullStrExp-F FullStrDec FullStrExp FullStrBind). StrIs (roll-FullStrExp z)) is (λ h. subst (λ (s : PlacedStr). HasS s.str) (sym (fold-roll-FullStrExp _ _ _ str_dec_level str_level str_bind_level (map-FullStrExp _ _ _ _ _ _ (λ h. h.0) (λ h. h.0) (λ h. h.0) y))) (str_parts y (sym (fold-roll-FullStrExp _ _ _ str_dec_step str_step str_bind_step (map-FullStrExp _ _ _ _ _ _ (λ h. h.0) (λ h. h.0) (λ h. h.0) y)) ∙ h)))

bind_step_is : (x : FullStrBind-F FullStrDec FullStrExp FullStrBind) (y : FullStrBind-F HeldDec HeldStr HeldBind) → map-FullStrBind _ _ _ _ _ _ (λ h. h.0) (λ h. h.0) (λ h. h.0) y ≡ x → BindIs (roll-FullStrBind x)
unfolding str_dec_binds str_binds str_bind_binds bare_str_dec bare_str bare_str_bind
bind_step_is x y is = subst (λ (z : FullStrBind-F FullStrDec FullStrExp FullStrBind). BindIs (roll-FullStrBind z)) is (λ h. subst HasB (sym (fold-roll-FullStrBind _ _ _ str_dec_level str_level str_bind_level (map-FullStrBind _ _ _ _ _ _ (λ h. h.0) (λ h. h.0) (λ h. h.0) y))) (has-bind y.name (sealed y.seal (bare_str y.body.0)) (has-sealed y.seal (bare_str y.body.0) (y.body.1 (sym (fold-roll-FullStrBind _ _ _ str_dec_step str_step str_bind_step (map-FullStrBind _ _ _ _ _ _ (λ h. h.0) (λ h. h.0) (λ h. h.0) y)) ∙ h)))))

pub str_is : (s : FullStrExp) → StrIs s
str_is = ind-FullStrExp StrDecIs StrIs BindIs str_dec_step_is str_step_is bind_step_is

pub bind_is : (bind : FullStrBind) → BindIs bind
bind_is = ind-FullStrBind StrDecIs StrIs BindIs str_dec_step_is str_step_is bind_step_is
