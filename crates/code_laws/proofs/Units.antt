-- Low plain units have a code where their bytes are few enough.
use Rattle.std.proofs.Common.{◌≡◌, ℕ, zero, suc, ◌≤◌, Bool, true, List, ◌∷◌, ◌++◌, map, refl, subst, arith}
use Rattle.std.specs.List.{list_all}
use Rattle.cm_bytes.specs.Fields.{list_of}
use Rattle.sml_trees.specs.declared.unit.BareUnit.{BareUnit}
use Rattle.sml_trees.specs.declared.unit.FunBind.{FunBind}
use Rattle.sml_trees.specs.declared.unit.FunsigBind.{FunsigBind}
use Rattle.sml_trees.specs.declared.unit.TopDec.{TopDec}
use Rattle.sml_trees.specs.declared.unit.TopDec.TheVariants as top
use Rattle.sml_syntax.specs.Code.{name_of, sig_of, sig_bind_of, str_of, str_bind_of, fun_bind_of, funsig_bind_of, topdec_of, code_of}
use Rattle.sml_syntax.specs.Places.{unplaced_sig_bind}
use Rattle.sml_syntax.specs.PlacesUnit.{unplaced_str_bind, unplaced_fun_bind, unplaced_funsig_bind, unplaced_topdec}
use Rattle.sml_syntax.specs.Reading.{AreAll}
use Rattle.sml_syntax.specs.ReadingExp.{IsStrBind, exp_is}
use Rattle.sml_syntax.specs.ReadingSig.{IsSigBind, sig_is}
use Rattle.sml_syntax.specs.ReadingUnit.{IsFunBind, IsFunsigBind, IsTopDec, most_tags}
use Rattle.tree_heights.specs.Heights.{highest, sig_bind_height, str_bind_height, functor_height, funsig_height, topdec_height, unit_height}
use Rattle.code_laws.specs.Plain.{plain_sig, plain_sig_bind, plain_funsig_bind}
use Rattle.code_laws.proofs.Fitting.{plain_str, plain_str_bind, plain_fun_bind, plain_topdec}
use Rattle.code_laws.proofs.Both.{topdecs_are}
use Rattle.code_laws.specs.Promises.{LowUnitsHaveCodes}
use Rattle.code_laws.proofs.Lists.{Small, Full, small_left, small_right, small_tail, full_left, text_full, Each, each_both, each_low, each_all, and_one, and_two, Reads, list_reads, name_reads}
use Rattle.code_laws.proofs.Signatures.{sig_bind_full, sig_bind_reads, sig_reads}
use Rattle.code_laws.proofs.Expressions.{str_bind_full, str_bind_reads, exp_reads}

-- what is no higher, and plain
abbrev Low : {A : Type 0} → (A → ℕ) → (A → Bool) → ℕ → A → Type 0
Low height plain n x = (height x ≤ n) × (plain x ≡ true)

-- each item is so
low_each : {A : Type 0} (height : A → ℕ) (plain : A → Bool) (n : ℕ) (xs : List A) → highest (map height xs) ≤ n
    → list_all plain xs ≡ true → Each (Low height plain n) xs
low_each height plain n xs low is =
    each_both (λ x. height x ≤ n) (λ x. plain x ≡ true) xs (each_low height n xs low) (each_all plain xs is)

fun_bind_reads : (n : ℕ) → Reads fun_bind_of unplaced_fun_bind (Low functor_height plain_fun_bind n) (IsFunBind n)
fun_bind_reads n x (low, plain) small =
    let all = name_of x.param ++ (sig_of x.param_sig ++ str_of x.body) in
    let some = small_right (name_of x.name) all small in
    let rest = small_right (name_of x.param) (sig_of x.param_sig ++ str_of x.body) some in (
      name_reads x.name (small_left (name_of x.name) all small),
      (
        name_reads x.param (small_left (name_of x.param) (sig_of x.param_sig ++ str_of x.body) some),
        (
          (sig_reads n).sig x.param_sig (omega arith, and_one (plain_sig x.param_sig) (plain_str x.body) plain)
              (small_left (sig_of x.param_sig) (str_of x.body) rest),
          (exp_reads n).str x.body (omega arith, and_two (plain_sig x.param_sig) (plain_str x.body) plain)
              (small_right (sig_of x.param_sig) (str_of x.body) rest),
        ),
      ),
    )

fun_bind_full : (x : FunBind) → Full (fun_bind_of x)
fun_bind_full x = full_left (name_of x.name) _ (text_full x.name.text)

funsig_bind_reads : (n : ℕ)
    → Reads funsig_bind_of unplaced_funsig_bind (Low funsig_height plain_funsig_bind n) (IsFunsigBind n)
funsig_bind_reads n x (low, plain) small =
    let all = name_of x.param ++ (sig_of x.param_sig ++ sig_of x.result_sig) in
    let some = small_right (name_of x.name) all small in
    let rest = small_right (name_of x.param) (sig_of x.param_sig ++ sig_of x.result_sig) some in (
      name_reads x.name (small_left (name_of x.name) all small),
      (
        name_reads x.param (small_left (name_of x.param) (sig_of x.param_sig ++ sig_of x.result_sig) some),
        (
          (sig_reads n).sig x.param_sig (omega arith, and_one (plain_sig x.param_sig) (plain_sig x.result_sig) plain)
              (small_left (sig_of x.param_sig) (sig_of x.result_sig) rest),
          (sig_reads n).sig x.result_sig (omega arith, and_two (plain_sig x.param_sig) (plain_sig x.result_sig) plain)
              (small_right (sig_of x.param_sig) (sig_of x.result_sig) rest),
        ),
      ),
    )

funsig_bind_full : (x : FunsigBind) → Full (funsig_bind_of x)
funsig_bind_full x = full_left (name_of x.name) _ (text_full x.name.text)

topdec_reads : (n : ℕ) → Reads topdec_of unplaced_topdec (Low topdec_height plain_topdec n) (IsTopDec n)
topdec_reads zero (top.Structures binds at) (low, plain) small = absurd (omega arith)
topdec_reads zero (top.Signatures binds at) (low, plain) small = absurd (omega arith)
topdec_reads zero (top.Functors binds at) (low, plain) small = absurd (omega arith)
topdec_reads zero (top.Funsigs binds at) (low, plain) small = absurd (omega arith)
topdec_reads (suc n) (top.Structures binds at) (low, plain) small = (
  list_reads str_bind_of unplaced_str_bind (Low str_bind_height plain_str_bind n) (IsStrBind n (exp_is n)) str_bind_full
      (str_bind_reads n (exp_reads n)) binds (low_each str_bind_height plain_str_bind n binds (omega arith) plain)
      (small_tail 128 (list_of str_bind_of binds) small),
  refl,
)
topdec_reads (suc n) (top.Signatures binds at) (low, plain) small = (
  list_reads sig_bind_of unplaced_sig_bind (Low sig_bind_height plain_sig_bind n) (IsSigBind n (sig_is n)) sig_bind_full
      (sig_bind_reads n (sig_reads n)) binds (low_each sig_bind_height plain_sig_bind n binds (omega arith) plain)
      (small_tail 129 (list_of sig_bind_of binds) small),
  refl,
)
topdec_reads (suc n) (top.Functors binds at) (low, plain) small = (
  list_reads fun_bind_of unplaced_fun_bind (Low functor_height plain_fun_bind n) (IsFunBind n) fun_bind_full
      (fun_bind_reads n) binds (low_each functor_height plain_fun_bind n binds (omega arith) plain)
      (small_tail 130 (list_of fun_bind_of binds) small),
  refl,
)
topdec_reads (suc n) (top.Funsigs binds at) (low, plain) small = (
  list_reads funsig_bind_of unplaced_funsig_bind (Low funsig_height plain_funsig_bind n) (IsFunsigBind n) funsig_bind_full
      (funsig_bind_reads n) binds (low_each funsig_height plain_funsig_bind n binds (omega arith) plain)
      (small_tail 131 (list_of funsig_bind_of binds) small),
  refl,
)

topdec_full : (x : TopDec) → Full (topdec_of x)
topdec_full (top.Structures binds at) = omega arith
topdec_full (top.Signatures binds at) = omega arith
topdec_full (top.Functors binds at) = omega arith
topdec_full (top.Funsigs binds at) = omega arith

units_read : (n : ℕ) (unit : BareUnit) → list_all plain_topdec unit.topdecs ≡ true → unit_height unit ≤ n
    → Small (code_of unit) → AreAll (IsTopDec n) (map unplaced_topdec unit.topdecs)
unfolding unit_height code_of
units_read n unit plain low small =
    let bytes = list_of topdec_of unit.topdecs in
    list_reads topdec_of unplaced_topdec (Low topdec_height plain_topdec n) (IsTopDec n) topdec_full (topdec_reads n)
    unit.topdecs (low_each topdec_height plain_topdec n unit.topdecs low plain)
    (small_tail 49 bytes (small_tail 67 (49 ∷ bytes) (small_tail 77 (67 ∷ 49 ∷ bytes)
    (small_tail 67 (77 ∷ 67 ∷ 49 ∷ bytes) small))))

tags_are : 1024 ≡ most_tags
unfolding most_tags
tags_are = refl

pub low_units : LowUnitsHaveCodes
low_units unit plain fits low small = record {
  file = refl;
  topdecs = units_read most_tags unit (topdecs_are unit plain fits) (subst (λ (n : ℕ). unit_height unit ≤ n) tags_are low) small;
}
