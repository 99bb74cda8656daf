-- How each kind of node is read, a level at a time, and how the items of a list are.
use Rattle.std.proofs.Common.{◌≡◌, ℕ, zero, suc, ◌+◌, ◌-◌, ◌<◌, ◌≤◌, List, [], ◌∷◌, ◌++◌, Option, Some, None, Result, ◌∙◌, refl, sym, subst, ap, arith}
use Rattle.cm_bytes.specs.Fields.{Step, byte_at, items_at}
use Rattle.cm_bytes.proofs.Items.{HasRead, with_front, items_go_on, items_fall_short, items_are_read}
use Rattle.sml_syntax.specs.Steps.{Table, tagged}
use Rattle.sml_syntax.specs.Reading.{ty_table, ty_at}
use Rattle.sml_syntax.specs.ReadingPat.{pat_table, pat_steps}
use Rattle.sml_syntax.specs.ReadingSig.{sig_table, spec_table, spec_body_table, sig_steps}
use Rattle.sml_syntax.specs.ReadingExp.{exp_table, dec_table, str_table, dec_body_table, exp_steps}
use Rattle.sml_syntax.specs.ReadingUnit.{topdec_table, topdec_at}
use Rattle.sml_syntax.specs.Took.{Took}
use Rattle.sml_syntax.specs.declared.fault.CodeFault.{CodeFault}

-- ---- items

begins_so : {A : Type 0} (read : Option (List A × List ℕ)) → with_front [] read ≡ read
begins_so None = refl
begins_so (Some x) = refl

-- no item is read yet
pub items_begin : {A : Type 0} (item_at : Step A) (count : ℕ) (bytes : List ℕ)
    → HasRead item_at (items_at item_at count bytes) [] (count - 0) bytes
items_begin {A} item_at count bytes =
    let all : count ≡ count - 0 = omega arith in
    let whole = items_at item_at count bytes in
    subst (λ (n : ℕ). HasRead item_at whole [] n bytes) all (record { so_far = begins_so whole })

pub ruleset item_steps = (items_begin, items_go_on, items_fall_short, items_are_read)

-- ---- levels

-- where no tag is left nothing is read
none_of : {A : Type 0} (at : ℕ → Step A) → at 0 ≡ (λ bytes. None) → (n : ℕ) (bytes : List ℕ) → n ≡ 0 → at n bytes ≡ None
none_of {A} at none n bytes e =
    ap (λ (k : ℕ). at k bytes) e ∙ ap (λ (step : Step A). step bytes) none

-- each level is read by way of the one below it
level_of : {A : Type 0} (at level : ℕ → Step A) → ((k : ℕ) → at (suc k) ≡ level k) → (n k : ℕ) (bytes : List ℕ)
    → n ≡ k + 1 → at n bytes ≡ level k bytes
level_of {A} at level deeper n k bytes e =
    let one : n ≡ suc k = omega arith in
    ap (λ (j : ℕ). at j bytes) one ∙ ap (λ (step : Step A). step bytes) (deeper k)

-- behind a tag, what the table has for it is read
pub took_tagged : {A : Type 0} (table : Table A) (tag : ℕ) (bytes behind : List ℕ) (r : Result A CodeFault) (rest : List ℕ)
    → byte_at bytes ≡ Some (tag, behind) → Took (table tag behind) r rest → Took (tagged table bytes) r rest
unfolding tagged
took_tagged {A} table tag bytes behind r rest read took =
    let same : tagged table bytes ≡ table tag behind = rw read refl in
    subst (λ (answer : Option (A × List ℕ)). Took answer r rest) (sym same) took

-- the same of a level
pub took_level : {A : Type 0} (at : ℕ → Step A) (table : ℕ → Table A) (n k tag : ℕ) (bytes behind : List ℕ)
    (r : Result A CodeFault) (rest : List ℕ) → at n bytes ≡ tagged (table k) bytes
    → byte_at bytes ≡ Some (tag, behind) → Took (table k tag behind) r rest → Took (at n bytes) r rest
took_level {A} at table n k tag bytes behind r rest level read took =
    subst (λ (answer : Option (A × List ℕ)). Took answer r rest) (sym level)
    (took_tagged (table k) tag bytes behind r rest read took)

-- ---- types

pub ty_none : (n : ℕ) (bytes : List ℕ) → n ≡ 0 → ty_at n bytes ≡ None
ty_none n bytes e = none_of (λ (n : ℕ). ty_at n) refl n bytes e

pub ty_level : (n k : ℕ) (bytes : List ℕ) → n ≡ k + 1
    → ty_at n bytes ≡ tagged (ty_table (ty_at k)) bytes
ty_level n k bytes e =
    level_of (λ (n : ℕ). ty_at n) (λ (k : ℕ). tagged (ty_table (ty_at k)))
    (λ k. refl) n k bytes e

pub ruleset ty_levels = (ty_none, ty_level)

-- ---- patterns

pub pat_none : (n : ℕ) (bytes : List ℕ) → n ≡ 0 → (pat_steps n).pat bytes ≡ None
pat_none n bytes e = none_of (λ (n : ℕ). (pat_steps n).pat) refl n bytes e

pub pat_level : (n k : ℕ) (bytes : List ℕ) → n ≡ k + 1
    → (pat_steps n).pat bytes ≡ tagged (pat_table k (pat_steps k)) bytes
pat_level n k bytes e =
    level_of (λ (n : ℕ). (pat_steps n).pat) (λ (k : ℕ). tagged (pat_table k (pat_steps k)))
    (λ k. refl) n k bytes e

pub ruleset pat_levels = (pat_none, pat_level)

-- ---- signatures

pub sig_none : (n : ℕ) (bytes : List ℕ) → n ≡ 0 → (sig_steps n).sig bytes ≡ None
sig_none n bytes e = none_of (λ (n : ℕ). (sig_steps n).sig) refl n bytes e

pub sig_level : (n k : ℕ) (bytes : List ℕ) → n ≡ k + 1
    → (sig_steps n).sig bytes ≡ tagged (sig_table k (sig_steps k)) bytes
sig_level n k bytes e =
    level_of (λ (n : ℕ). (sig_steps n).sig) (λ (k : ℕ). tagged (sig_table k (sig_steps k)))
    (λ k. refl) n k bytes e

pub spec_none : (n : ℕ) (bytes : List ℕ) → n ≡ 0 → (sig_steps n).spec bytes ≡ None
spec_none n bytes e = none_of (λ (n : ℕ). (sig_steps n).spec) refl n bytes e

pub spec_level : (n k : ℕ) (bytes : List ℕ) → n ≡ k + 1
    → (sig_steps n).spec bytes ≡ tagged (spec_table k (sig_steps k)) bytes
spec_level n k bytes e =
    level_of (λ (n : ℕ). (sig_steps n).spec) (λ (k : ℕ). tagged (spec_table k (sig_steps k)))
    (λ k. refl) n k bytes e

pub spec_body_none : (n : ℕ) (bytes : List ℕ) → n ≡ 0 → (sig_steps n).spec_body bytes ≡ None
spec_body_none n bytes e = none_of (λ (n : ℕ). (sig_steps n).spec_body) refl n bytes e

pub spec_body_level : (n k : ℕ) (bytes : List ℕ) → n ≡ k + 1
    → (sig_steps n).spec_body bytes ≡ tagged (spec_body_table (sig_steps k)) bytes
spec_body_level n k bytes e =
    level_of (λ (n : ℕ). (sig_steps n).spec_body) (λ (k : ℕ). tagged (spec_body_table (sig_steps k)))
    (λ k. refl) n k bytes e

pub ruleset sig_levels = (sig_none, sig_level, spec_none, spec_level, spec_body_none, spec_body_level)

-- ---- expressions

pub exp_none : (n : ℕ) (bytes : List ℕ) → n ≡ 0 → (exp_steps n).exp bytes ≡ None
exp_none n bytes e = none_of (λ (n : ℕ). (exp_steps n).exp) refl n bytes e

pub exp_level : (n k : ℕ) (bytes : List ℕ) → n ≡ k + 1
    → (exp_steps n).exp bytes ≡ tagged (exp_table k (exp_steps k)) bytes
exp_level n k bytes e =
    level_of (λ (n : ℕ). (exp_steps n).exp) (λ (k : ℕ). tagged (exp_table k (exp_steps k)))
    (λ k. refl) n k bytes e

pub dec_none : (n : ℕ) (bytes : List ℕ) → n ≡ 0 → (exp_steps n).dec bytes ≡ None
dec_none n bytes e = none_of (λ (n : ℕ). (exp_steps n).dec) refl n bytes e

pub dec_level : (n k : ℕ) (bytes : List ℕ) → n ≡ k + 1
    → (exp_steps n).dec bytes ≡ tagged (dec_table k (exp_steps k)) bytes
dec_level n k bytes e =
    level_of (λ (n : ℕ). (exp_steps n).dec) (λ (k : ℕ). tagged (dec_table k (exp_steps k)))
    (λ k. refl) n k bytes e

pub str_none : (n : ℕ) (bytes : List ℕ) → n ≡ 0 → (exp_steps n).str bytes ≡ None
str_none n bytes e = none_of (λ (n : ℕ). (exp_steps n).str) refl n bytes e

pub str_level : (n k : ℕ) (bytes : List ℕ) → n ≡ k + 1
    → (exp_steps n).str bytes ≡ tagged (str_table k (exp_steps k)) bytes
str_level n k bytes e =
    level_of (λ (n : ℕ). (exp_steps n).str) (λ (k : ℕ). tagged (str_table k (exp_steps k)))
    (λ k. refl) n k bytes e

pub body_none : (n : ℕ) (bytes : List ℕ) → n ≡ 0 → (exp_steps n).dec_body bytes ≡ None
body_none n bytes e = none_of (λ (n : ℕ). (exp_steps n).dec_body) refl n bytes e

pub body_level : (n k : ℕ) (bytes : List ℕ) → n ≡ k + 1
    → (exp_steps n).dec_body bytes ≡ tagged (dec_body_table (exp_steps k)) bytes
body_level n k bytes e =
    level_of (λ (n : ℕ). (exp_steps n).dec_body) (λ (k : ℕ). tagged (dec_body_table (exp_steps k)))
    (λ k. refl) n k bytes e

pub ruleset exp_levels = (exp_none, exp_level, dec_none, dec_level, str_none, str_level, body_none, body_level)

-- ---- the top level

pub topdec_none : (n : ℕ) (bytes : List ℕ) → n ≡ 0 → topdec_at n bytes ≡ None
topdec_none n bytes e = none_of (λ (n : ℕ). topdec_at n) refl n bytes e

pub topdec_level : (n k : ℕ) (bytes : List ℕ) → n ≡ k + 1
    → topdec_at n bytes ≡ tagged (topdec_table k) bytes
topdec_level n k bytes e =
    level_of (λ (n : ℕ). topdec_at n) (λ (k : ℕ). tagged (topdec_table k))
    (λ k. refl) n k bytes e

pub ruleset topdec_levels = (topdec_none, topdec_level)
