use Rattle.std.proofs.Common.{ap, ap₂, sym, ◌∙◌, ◌≡◌, ℕ, Bool}
use Rattle.cm_base.specs.declared.record.Namespace.TheVariants as space
use Rattle.skeletons.specs.Scopes.{name_use}
use Rattle.skeletons.specs.Uses.{dec_brings, str_uses}
use Rattle.skeletons.specs.Walks.{noted, declared, closed, shut}
use Rattle.skeletons.proofs.Chains.{mark_of, noted_both, closed_within, shut_local, then_ok}
use Rattle.skeletons.proofs.Forms.{brings-Local, uses-Functor, uses-Within}
use Rattle.skeletons.proofs.walk_exp.+walk_exp.Goals as goal

pub walk_dec-returns-in_ok-opens-in-Local-clause-walked : goal.walk_dec-returns-in_ok-opens-in-Local-clause-walked
walk_dec-returns-in_ok-opens-in-Local-clause-walked n c =
    let w = c.args.walk.now in
    let first = dec_brings c.in-Local.hidden in
    let second = dec_brings c.in-Local.dec in
    let one : c.walk_dec.new.walk ≡ declared w first =
    c.in_ok-walk_dec-in-Local.ensures.walked ∙ ap (λ d. declared w (dec_brings d)) c.get.ensures in
    let two : c.walk_dec-in-Local.new.walk ≡ declared (declared w first) second =
    c.in_ok-opens-in-Local.ensures.walked
    ∙ ap (λ d. declared c.walk_dec.new.walk (dec_brings d)) c.get-in-Local.ensures
    ∙ ap (λ x. declared x second) one in
    let start : c.mark-start.result ≡ mark_of w =
    ap₂ (λ (names : ℕ) (opened : Bool). record { names = names; opened = opened })
    c.mark-start.ensures.names c.mark-start.ensures.opened in
    let middle : c.mark-middle.result ≡ mark_of (declared w first) =
    ap₂ (λ (names : ℕ) (opened : Bool). record { names = names; opened = opened })
    c.mark-middle.ensures.names c.mark-middle.ensures.opened
    ∙ ap mark_of one in
    let opens : c.in_ok-opens-in-Local.opens ≡ second.opens =
    c.in_ok-opens-in-Local.ensures.opens ∙ ap (λ d. (dec_brings d).opens) c.get-in-Local.ensures in
    c.shut.ensures
    ∙ ap (λ x. shut x c.mark-start.result c.mark-middle.result c.in_ok-opens-in-Local.opens) two
    ∙ ap (λ x. shut (declared (declared w first) second) x c.mark-middle.result c.in_ok-opens-in-Local.opens) start
    ∙ ap (λ x. shut (declared (declared w first) second) (mark_of w) x c.in_ok-opens-in-Local.opens) middle
    ∙ ap (λ x. shut (declared (declared w first) second) (mark_of w) (mark_of (declared w first)) x) opens
    ∙ shut_local w first second
    ∙ ap (declared w) (sym (ap dec_brings c.in-Local.is ∙ brings-Local c.in-Local.hidden c.in-Local.dec c.in-Local.field-2))

pub walk_str-returns-in_ok-name-in-Functor : goal.walk_str-returns-in_ok-name-in-Functor
walk_str-returns-in_ok-name-in-Functor n c =
    let w = c.args.walk.now in
    let arg = str_uses c.in-Functor.arg in
    then_ok c.walk_str-in-Functor.result _ _
    (λ h. h
    ∙ ap (λ s. noted c.name.new.self (str_uses s)) c.get-in-Functor.ensures
    ∙ ap (λ x. noted x arg) c.in_ok-name-in-Functor.ensures
    ∙ noted_both w (name_use space.Functor c.in-Functor.name) arg
    ∙ ap (noted w) (sym (ap str_uses c.in-Functor.is ∙ uses-Functor c.in-Functor.name c.in-Functor.arg c.in-Functor.field-2)))
    c.walk_str-in-Functor.ensures

pub walk_str-returns-in_ok-walk_str-in-Within : goal.walk_str-returns-in_ok-walk_str-in-Within
walk_str-returns-in_ok-walk_str-in-Within n c =
    let w = c.args.walk.now in
    let first = dec_brings c.in-Within.dec in
    let phrase = str_uses c.in-Within.str in
    let one : c.walk_dec-in-Within.new.walk ≡ declared w first =
    c.in_ok-walk_dec-in-Within.ensures.walked ∙ ap (λ d. declared w (dec_brings d)) c.get-in-Within.ensures in
    let two : c.walk_str-in-Within.new.walk ≡ noted (declared w first) phrase =
    c.in_ok-walk_str-in-Within.ensures
    ∙ ap (λ s. noted c.walk_dec-in-Within.new.walk (str_uses s)) c.get-in-Within-2.ensures
    ∙ ap (λ x. noted x phrase) one in
    let mark : c.mark-mark-in-Within.result ≡ mark_of w =
    ap₂ (λ (names : ℕ) (opened : Bool). record { names = names; opened = opened })
    c.mark-mark-in-Within.ensures.names c.mark-mark-in-Within.ensures.opened in
    c.close-in-Within.ensures
    ∙ ap (λ x. closed x c.mark-mark-in-Within.result) two
    ∙ ap (λ x. closed (noted (declared w first) phrase) x) mark
    ∙ closed_within w first phrase
    ∙ ap (noted w) (sym (ap str_uses c.in-Within.is ∙ uses-Within c.in-Within.dec c.in-Within.str c.in-Within.field-2))
