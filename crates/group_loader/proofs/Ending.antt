-- Steps of loading in a row: what the whole of them answers and leaves.
use Rattle.std.proofs.Common.{◌≡◌, ◌∙◌, ap, sym, subst, refl, inl, ℕ, zero, suc, ◌+◌, ◌≤◌, List, [], ◌∷◌, ◌++◌, append_assoc, Option, Some, Result, Ok, Err, arith}
use Rattle.std.specs.Prelude.{IsErrAnd, slice_get}
use Rattle.cm_base.specs.Causes.{HasCause, Rose, one_more}
use Rattle.cm_base.specs.Files.{Files, Told}
use Rattle.cm_base.specs.Calls.{Gives}
use Rattle.cm_base.specs.declared.diag.Diag.{Diag}
use Rattle.cm_base.specs.declared.fault.Fault.{Fault}
use Rattle.cm_base.specs.declared.fault.Fault.TheVariants as refusal
use Rattle.tool_deriving.specs.Deriving.{ToolState, ToolUse}
use Rattle.member_deriving.specs.Uses.{Outcome, Work, after_uses, goes_on, outcome, ran_more, work_of, ◌>>◌}
use Rattle.member_deriving.specs.declared.fault.MemberFault.{MemberFault}
use Rattle.member_deriving.specs.declared.fault.MemberFault.TheVariants as member
use Rattle.box_deriving.specs.Boxes.{CutOff, InStep, Origin, Reached, StepsOn, Went, World, rules_in, world_of}
use Rattle.box_deriving.specs.Boxes as box
use Rattle.loader_parts.specs.Answers.{Loads as Reads}
use Rattle.loader_parts.specs.declared.fault.ReadFault.{ReadFault}
use Rattle.loader_parts.specs.declared.fault.ReadFault.TheVariants as plain
use Rattle.project_checks.specs.declared.progress.Progress.{Progress}
use Rattle.group_loader.specs.Answers.{answer, as_member, as_plain, as_refused}
use Rattle.group_loader.specs.Loading.{Failed, Loads, Refuses, Scene, StepsTo, Tends, scene_of, world_in}
use Rattle.group_loader.specs.declared.fault.LoadFault.{LoadFault}
use Rattle.group_loader.specs.declared.fault.LoadFault.TheVariants as fault
use Rattle.group_loader.proofs.Adding.{Adds, AddsNext, adds_none, goes_adds}

-- ---- boxes

there_too : (a b : List ToolState) (at : ℕ) (x : ToolState) → rules_in a ≡ rules_in b → slice_get a at ≡ Some x
    → (y : ToolState) × (slice_get b at ≡ Some y)
there_too [] b at x same there = absurd cc
there_too (one ∷ a) [] at x same there = absurd cc
there_too (one ∷ a) (two ∷ b) zero x same there = (two, refl)
there_too (one ∷ a) (two ∷ b) (suc at) x same there =
    let rest : rules_in a ≡ rules_in b = cc in there_too a b at x rest there

none_more : (m : ℕ) → m ≡ zero + m
none_more m = omega arith

one_further : (n m : ℕ) → suc (n + m) ≡ suc n + m
one_further n m = omega arith

ran_on : (n m ran : ℕ) → ran_more m (ran_more n ran) ≡ ran_more (n + m) ran
ran_on zero m ran = ap (λ (k : ℕ). ran_more k ran) (none_more m)
ran_on (suc n) m ran = ran_on n m (one_more ran) ∙ ap (λ (k : ℕ). ran_more k ran) (one_further n m)

went_on : (a b c : ToolState) → Went a b → Went b c → Went a c
went_on a b c one two =
    let le : a.faults ≤ b.faults = one.faults in
    let more : b.faults ≤ c.faults = two.faults in
    record {
      runs = one.runs + two.runs;
      ran = two.ran ∙ ap (ran_more two.runs) one.ran ∙ ran_on one.runs two.runs a.ran;
      faults = omega (arith, le, more);
    }

rose_later : (a b c : ℕ) → a ≤ b → Rose b c → Rose a c
rose_later a b c le rose = omega (arith, le, rose)

rest_went : (before after : ToolState) → before ≡ after → Went before after
rest_went before after same =
    subst (λ (t : ToolState). Went before t) same (record { runs = zero; ran = refl; faults = omega arith })

pub tends_rests : {F : Type 0} (tools : List ToolState) → (F → ⊥) → Tends F tools tools
tends_rests tools never = record {
  rules = refl;
  later = λ at before after was is. rest_went before after cc;
  cause = λ blamed. absurd (never blamed);
}

failed_later : (a b c : List ToolState) → rules_in b ≡ rules_in a
    → ((at : ℕ) (before after : ToolState) → slice_get a at ≡ Some before → slice_get b at ≡ Some after
    → Went before after) → Failed b c → Failed a c
failed_later a b c rules later failed =
    let old = there_too b a failed.at failed.before rules failed.was in
    let went = later failed.at old.0 failed.before old.1 failed.was in
    record {
      at = failed.at;
      before = old.0;
      after = failed.after;
      was = old.1;
      is = failed.is;
      runs = went.runs + failed.runs;
      ran = failed.ran
          ∙ ap one_more (ap (ran_more failed.runs) went.ran ∙ ran_on went.runs failed.runs old.0.ran);
      rose = rose_later old.0.faults failed.before.faults failed.after.faults went.faults failed.rose;
    }

pub tends_then : {F G : Type 0} (a b c : List ToolState) → Tends F a b → Tends G b c → Tends G a c
tends_then a b c one two = record {
  rules = two.rules ∙ one.rules;
  later = λ at x z was is.
      let mid = there_too a b at x (sym one.rules) was in
      went_on x mid.0 z (one.later at x mid.0 was mid.1) (two.later at mid.0 z mid.1 is);
  cause = λ blamed. failed_later a b c one.rules one.later (two.cause blamed);
}

pub tends_as : {F G : Type 0} (a b : List ToolState) → Tends F a b → (G → F) → Tends G a b
tends_as a b one so = record { rules = one.rules; later = one.later; cause = λ blamed. one.cause (so blamed) }

-- ---- causes

pub cause_then : {F : Type 0} (a b c : ℕ) → a ≤ b → HasCause b c F → HasCause a c F
cause_then a b c le two =
    let more : b ≤ c = two.later in
    record { later = omega (arith, le, more); rose = λ failed. rose_later a b c le (two.rose failed) }

pub cause_as : {F G : Type 0} (a b : ℕ) → HasCause a b F → (G → F) → HasCause a b G
cause_as a b one so = record { later = one.later; rose = λ failed. one.rose (so failed) }

-- ---- fronts of uses

reached_by : (origin : Origin) (front rest : List ToolUse) (now : World)
    → InStep origin (work_of (after_uses origin.files front) front) now → Reached origin front rest now
reached_by origin front [] now step = step
reached_by origin front (job ∷ rest) now step = inl step

further : (origin : Origin) (front rest more : List ToolUse) (now : World) → Reached origin front rest now
    → Reached origin front (rest ++ more) now
further origin front [] more now step = reached_by origin front more now step
further origin front (job ∷ rest) more now reached = reached

pub cut_here : (origin : Origin) (work whole : Work) (now : World) → InStep origin work now → Adds work.uses whole
    → CutOff origin whole.uses now
cut_here origin work whole now here adds = record {
  front = work.uses;
  rest = adds.more;
  all = adds.is;
  reached = reached_by origin work.uses adds.more now (record {
    holds = here.holds ∙ ap (λ (f : Files). Some f) here.made;
    made = refl;
    ran = here.ran;
    rules = here.rules;
  });
}

pub cut_more : (origin : Origin) (uses : List ToolUse) (whole : Work) (now : World) → CutOff origin uses now
    → Adds uses whole → CutOff origin whole.uses now
cut_more origin uses whole now cut adds = record {
  front = cut.front;
  rest = cut.rest ++ adds.more;
  all = adds.is ∙ ap (λ (u : List ToolUse). u ++ adds.more) cut.all ∙ append_assoc cut.front cut.rest adds.more;
  reached = further origin cut.front cut.rest adds.more now cut.reached;
}

-- ---- one step and the next

step_stops : {A B : Type 0} (origin : Origin) (step : Outcome A) (next : A → Work → Outcome B) (e : LoadFault)
    (now : World) → StepsTo {A = A} origin step (Err e) now → AddsNext next
    → StepsTo {A = B} origin (step >> next) (Err e) now
step_stops {A} {B} origin step next (fault.Diag diag) now stopped adds =
    subst (λ (r : Result A Diag). StepsTo {A = B} origin (goes_on step.work r next) (Err (fault.Diag diag)) now)
    (sym stopped.gives) (record { gives = refl; leads = stopped.leads; cut = tt })
step_stops origin step next fault.Folder now stopped adds = record {
  gives = tt;
  leads = tt;
  cut = cut_more origin step.work.uses (step >> next).work now stopped.cut
      (goes_adds step.work.uses step next (adds_none step.work) adds);
}
step_stops origin step next fault.Tool now stopped adds = record {
  gives = tt;
  leads = tt;
  cut = cut_more origin step.work.uses (step >> next).work now stopped.cut
      (goes_adds step.work.uses step next (adds_none step.work) adds);
}
step_stops origin step next fault.NoMemory now stopped adds = record {
  gives = tt;
  leads = tt;
  cut = cut_more origin step.work.uses (step >> next).work now stopped.cut
      (goes_adds step.work.uses step next (adds_none step.work) adds);
}

step_goes : {A B : Type 0} (origin : Origin) (step : Outcome A) (next : A → Work → Outcome B) (a : A)
    (r : Result B LoadFault) (now : World) → step.result ≡ Ok a → StepsTo origin (next a step.work) r now
    → StepsTo origin (step >> next) r now
step_goes {A} origin step next a r now is rest =
    subst (λ (m : Result A Diag). StepsTo origin (goes_on step.work m next) r now) (sym is) rest

-- ---- calls in a row

same_fault : {A B : Type 0} (e f : LoadFault) → ◌≡◌ {A = Result A LoadFault} (Err e) (Err f)
    → ◌≡◌ {A = Result B LoadFault} (Err e) (Err f)
same_fault e f same = let is : e ≡ f = cc in ap Err is

pub stops_with : {A B : Type 0} (e : LoadFault) (old new : Scene) (step : Origin → Work → Outcome A)
    (next : Origin → A → Work → Outcome B) → Loads {A = A} (Err e) old new step
    → ((origin : Origin) → AddsNext (next origin))
    → Loads {A = B} (Err e) old new (λ origin work. step origin work >> next origin)
stops_with {A} {B} e old new step next stopped adds = record {
  folder = cause_as old.faults new.faults stopped.folder (same_fault {A = B} {B = A} e fault.Folder);
  tools = tends_as old.tools new.tools stopped.tools (same_fault {A = B} {B = A} e fault.Tool);
  steps = λ origin work here.
      step_stops origin (step origin work) (next origin) e (world_in new) (stopped.steps origin work here)
      (adds origin);
}

-- the result of a call that passes a fault on
pub as_passed : {B : Type 0} (r : Result B LoadFault) (e : LoadFault) (old new : Scene)
    (step : Origin → Work → Outcome B) → IsErrAnd r (λ y. y ≡ e) → Loads {A = B} (Err e) old new step
    → Loads r old new step
as_passed (Ok value) e old new step is loads = absurd is
as_passed {B} (Err y) e old new step is loads =
    subst (λ (y : LoadFault). Loads {A = B} (Err y) old new step) (sym is) loads

pub goes : {A B : Type 0} (a : A) (r : Result B LoadFault) (old mid new : Scene) (step : Origin → Work → Outcome A)
    (next : Origin → A → Work → Outcome B) → Loads (Ok a) old mid step → Loads r mid new (λ origin. next origin a)
    → Loads r old new (λ origin work. step origin work >> next origin)
goes a r old mid new step next one two = record {
  folder = cause_then old.faults mid.faults new.faults one.folder.later two.folder;
  tools = tends_then old.tools mid.tools new.tools one.tools two.tools;
  steps = λ origin work here.
      let first = one.steps origin work here in
      step_goes origin (step origin work) (next origin) a r (world_in new) first.gives
      (two.steps origin (step origin work).work first.leads);
}

-- ---- calls that use no tool

-- want of memory may come at any point
pub wants : {A : Type 0} (scene : Scene) (step : Origin → Work → Outcome A)
    → ((origin : Origin) (work : Work) → Adds work.uses (step origin work).work)
    → Loads {A = A} (Err fault.NoMemory) scene scene step
wants scene step adds = record {
  folder = record { later = omega arith; rose = λ failed. absurd (cc) };
  tools = tends_rests scene.tools (λ failed. absurd (cc));
  steps = λ origin work here. record {
    gives = tt;
    leads = tt;
    cut = cut_here origin work (step origin work).work (world_in scene) here (adds origin work);
  };
}

refuses_at : {A : Type 0} (diag : Diag) (scene : Scene) (m : Result A Diag) → m ≡ Err diag
    → Loads {A = A} (Err (fault.Diag diag)) scene scene (λ origin work. outcome work m)
refuses_at diag scene m is = record {
  folder = record { later = omega arith; rose = λ failed. absurd (cc) };
  tools = tends_rests scene.tools (λ failed. absurd (cc));
  steps = λ origin work here. record { gives = is; leads = here; cut = tt };
}

pub gives_at : {A : Type 0} (value : A) (scene : Scene) (m : Result A Diag) → m ≡ Ok value
    → Loads (Ok value) scene scene (λ origin work. outcome work m)
gives_at value scene m is = record {
  folder = record { later = omega arith; rose = λ failed. absurd (cc) };
  tools = tends_rests scene.tools (λ failed. absurd (cc));
  steps = λ origin work here. record { gives = is; leads = here; cut = tt };
}

-- a refusal at the end
pub refused_by : {A : Type 0} (e : LoadFault) (diag : Diag) (scene : Scene) (m : Result A Diag) → Refuses e diag
    → m ≡ Err diag → Loads {A = A} (Err e) scene scene (λ origin work. outcome work m)
refused_by {A} (fault.Diag found) diag scene m is refused =
    let same : ◌≡◌ {A = Result A Diag} (Err diag) (Err found) = ap Err (sym is) in
    refuses_at found scene m (refused ∙ same)
refused_by fault.Folder diag scene m is refused = absurd is
refused_by fault.Tool diag scene m is refused = absurd is
refused_by fault.NoMemory diag scene m is refused =
    wants scene (λ origin work. outcome work m) (λ origin work. adds_none work)

-- a call that reads nothing
pub computes : {A : Type 0} (r : Result A Fault) (scene : Scene) (m : Result A Diag) → Gives r m
    → Loads (as_refused r) scene scene (λ origin work. outcome work m)
computes (Ok value) scene m is = gives_at value scene m is
computes (Err (refusal.Diag diag)) scene m is = refuses_at diag scene m is
computes (Err refusal.NoMemory) scene m is =
    wants scene (λ origin work. outcome work m) (λ origin work. adds_none work)

-- .. and one that reads
module _ {A : Type 0} (old new : Option Files) (before after : ℕ) (tools : List ToolState)
    (m : Files → Result A Diag) (same : new ≡ old) where
  read_here : (origin : Origin) (work : Work) → InStep origin work (world_of old tools)
      → InStep origin work (world_of new tools)
  read_here origin work here =
      record { holds = same ∙ here.holds; made = here.made; ran = here.ran; rules = here.rules }

  pub reads : (r : Result A ReadFault) → HasCause before after (r ≡ Err plain.Folder)
      → Told old (λ files. Reads r (m files))
      → Loads (as_plain r) (scene_of old before tools) (scene_of new after tools)
      (λ origin work. outcome work (m work.files))
  reads (Ok value) cause told = record {
    folder = cause_as before after cause (λ failed. absurd (cc));
    tools = tends_rests tools (λ failed. absurd (cc));
    steps = λ origin work here. record {
      gives = told work.files here.holds;
      leads = read_here origin work here;
      cut = tt;
    };
  }
  reads (Err (plain.Diag diag)) cause told = record {
    folder = cause_as before after cause (λ failed. absurd (cc));
    tools = tends_rests tools (λ failed. absurd (cc));
    steps = λ origin work here. record {
      gives = told work.files here.holds;
      leads = read_here origin work here;
      cut = tt;
    };
  }
  reads (Err plain.Folder) cause told = record {
    folder = cause_as before after cause (λ failed. refl);
    tools = tends_rests tools (λ failed. absurd (cc));
    steps = λ origin work here. record {
      gives = tt;
      leads = tt;
      cut = cut_here origin work work (world_of new tools) (read_here origin work here) (adds_none work);
    };
  }
  reads (Err plain.NoMemory) cause told = record {
    folder = cause_as before after cause (λ failed. absurd (cc));
    tools = tends_rests tools (λ failed. absurd (cc));
    steps = λ origin work here. record {
      gives = tt;
      leads = tt;
      cut = cut_here origin work work (world_of new tools) (read_here origin work here) (adds_none work);
    };
  }

-- ---- a use of a tool

module _ (old new : Option Files) (before after : ℕ) (tools now : List ToolState)
    (step : Work → Outcome (List ℕ)) where
  failed_so : box.Failed tools now → Failed tools now
  failed_so failed = record {
    at = failed.at;
    before = failed.before;
    after = failed.after;
    was = failed.was;
    is = failed.is;
    runs = zero;
    ran = failed.ran;
    rose = failed.rose;
  }

  tends_so : (r : Result (List ℕ) MemberFault) {G : Type 0} → box.Tends r tools now → (G → r ≡ Err member.Tool)
      → Tends G tools now
  tends_so r tends so = record {
    rules = tends.rules;
    later = tends.later;
    cause = λ blamed. failed_so (tends.blamed (so blamed));
  }

  pub derives : (r : Result (List ℕ) MemberFault) → HasCause before after (r ≡ Err member.Folder)
      → box.Tends r tools now
      → ((origin : Origin) (work : Work) → InStep origin work (world_of old tools)
      → StepsOn origin work (step work) r (world_of new now))
      → Loads (as_member r) (scene_of old before tools) (scene_of new after now) (λ origin. step)
  derives (Ok text) cause tends steps = record {
    folder = cause_as before after cause (λ failed. absurd (cc));
    tools = tends_so (Ok text) tends (λ failed. absurd (cc));
    steps = λ origin work here.
        let so = steps origin work here in record { gives = so.gives; leads = so.leads; cut = tt };
  }
  derives (Err (member.Diag diag)) cause tends steps = record {
    folder = cause_as before after cause (λ failed. absurd (cc));
    tools = tends_so (Err (member.Diag diag)) tends (λ failed. absurd (cc));
    steps = λ origin work here.
        let so = steps origin work here in record { gives = so.gives; leads = so.leads; cut = tt };
  }
  derives (Err member.Folder) cause tends steps = record {
    folder = cause_as before after cause (λ failed. refl);
    tools = tends_so (Err member.Folder) tends (λ failed. absurd (cc));
    steps = λ origin work here. record { gives = tt; leads = tt; cut = (steps origin work here).cut };
  }
  derives (Err member.Tool) cause tends steps = record {
    folder = cause_as before after cause (λ failed. absurd (cc));
    tools = tends_so (Err member.Tool) tends (λ failed. refl);
    steps = λ origin work here. record { gives = tt; leads = tt; cut = (steps origin work here).cut };
  }
  derives (Err member.NoMemory) cause tends steps = record {
    folder = cause_as before after cause (λ failed. absurd (cc));
    tools = tends_so (Err member.NoMemory) tends (λ failed. absurd (cc));
    steps = λ origin work here. record { gives = tt; leads = tt; cut = (steps origin work here).cut };
  }

-- ---- answers of calls that load more

-- the answer of a call that passes a fault on
pub answered : (r : Result (Unit {0}) LoadFault) (e : LoadFault) (now : Progress) (old new : Scene)
    (step : Origin → Work → Outcome Progress) → IsErrAnd r (λ y. y ≡ e) → Loads {A = Progress} (Err e) old new step
    → Loads (answer r now) old new step
answered (Ok done) e now old new step is loads = absurd is
answered (Err y) e now old new step is loads =
    subst (λ (y : LoadFault). Loads {A = Progress} (Err y) old new step) (sym is) loads

-- a step that is another one
pub steps_as : {A : Type 0} (r : Result A LoadFault) (old new : Scene) (one two : Origin → Work → Outcome A)
    → ((origin : Origin) (work : Work) → InStep origin work (world_in old) → one origin work ≡ two origin work)
    → Loads r old new one → Loads r old new two
steps_as r old new one two same loads = record {
  folder = loads.folder;
  tools = loads.tools;
  steps = λ origin work here.
      subst (λ step. StepsTo origin step r (world_in new)) (same origin work here) (loads.steps origin work here);
}

-- the same answer, said of what it became
pub value_is : {A : Type 0} (one two : A) (old new : Scene) (step : Origin → Work → Outcome A) → two ≡ one
    → Loads (Ok one) old new step → Loads (Ok two) old new step
value_is {A} one two old new step same loads = subst (λ (value : A). Loads (Ok value) old new step) (sym same) loads
