-- What a desk keeps, and runs of calls.
use Rattle.std.proofs.Common.{◌≡◌, ◌≢◌, ℕ, ◌<◌, ◌≤◌, zero, suc, List, [], ◌∷◌, ◌++◌, length, take, set, refl, sym, ap, ◌∙◌, subst, arith, Option, Some, None, IfNone, IfSome, MatchOption, slice_get, ◌⊎◌, inl, inr, ⊎_elim, length-append}
use Rattle.std.proofs.lemmas.List.{length-set, set-set, take_at}
use Rattle.std.proofs.lemmas.Option.{slice_get_cases, slice_get_within}
use Rattle.std.specs.Borrow.{Bor}
use Rattle.std.specs.Option.{option_copied}
use Rattle.std.specs.declared.cmp.Ordering.{Ordering}
use Rattle.std.specs.Prelude.{Result, Ok, Err, IfOk, OnErr}
use Rattle.std.specs.declared.alloc.AllocError.{AllocError}
use Rattle.serial_history.specs.declared.query.Query.{Query}
use Rattle.serial_history.specs.declared.query.Answer.{Answer}
use Rattle.local_versions.specs.Store.{Version}
use Rattle.local_index.specs.State.{State, OpenSession, IsSessionAt, IsSessionOf, IsOpenAt, Opens, Closes, Reads, list_read, list_there, present}
use Rattle.local_index.specs.Desk.{Step, Run, Machine, Serves, KeepsAll, IsTicketAt, IsUnknown, ReturnsTicket, TakesTicket, cleared, reply_of}
use Rattle.local_index.specs.declared.desk.Ticket.{Ticket}
use Rattle.local_index.specs.declared.play.DeskCall.{DeskCall}
use Rattle.local_index.specs.declared.play.DeskReply.{DeskReply}
use Rattle.local_index.specs.declared.play.DeskReply.TheVariants as replies
use Rattle.local_index.specs.declared.refused.DeskRefused.{DeskRefused}
use Rattle.local_index.specs.declared.refused.DeskRefused.TheVariants as refusals
use Rattle.serial_history.specs.declared.transaction.Receipt.{Receipt}

-- what is at a place after a write: the value that was written there, or what was there before
get-set : {X : Type 0} (xs : List X) (i : ℕ) (v : X) (j : ℕ) (x : X) → slice_get (set xs i v) j ≡ Some x → ((i ≡ j) × (x ≡ v)) ⊎ ((i ≢ j) × (slice_get xs j ≡ Some x))
get-set [] i v j x h = absurd cc
get-set (y ∷ xs) zero v zero x h = inl (refl, cc)
get-set (y ∷ xs) zero v (suc j) x h = inr ((λ e. omega arith), h)
get-set (y ∷ xs) (suc i) v zero x h = inr ((λ e. omega arith), h)
get-set (y ∷ xs) (suc i) v (suc j) x h = ⊎_elim (λ p. inl (omega arith, p.1)) (λ p. inr ((λ e. p.0 (omega arith)), p.1)) (get-set xs i v j x h)

pub set-there : {X : Type 0} (xs : List X) (i : ℕ) (v x : X) → slice_get xs i ≡ Some x → slice_get (set xs i v) i ≡ Some v
set-there [] i v x h = absurd cc
set-there (y ∷ xs) zero v x h = refl
set-there (y ∷ xs) (suc i) v x h = set-there xs i v x h

pub set-other : {X : Type 0} (xs : List X) (i : ℕ) (v : X) (j : ℕ) → i ≢ j → slice_get (set xs i v) j ≡ slice_get xs j
set-other [] i v j n = refl
set-other (y ∷ xs) zero v zero n = absurd (n refl)
set-other (y ∷ xs) zero v (suc j) n = refl
set-other (y ∷ xs) (suc i) v zero n = refl
set-other (y ∷ xs) (suc i) v (suc j) n = set-other xs i v j (λ e. n (omega arith))

set-some : {X : Type 0} (xs : List (Option X)) (i : ℕ) (x : X) (at : ℕ) (y : X) → slice_get xs at ≡ Some (Some y) → (z : X) × (slice_get (set xs i (Some x)) at ≡ Some (Some z))
set-some [] i x at y h = absurd cc
set-some (v ∷ xs) zero x zero y h = (x, refl)
set-some (v ∷ xs) zero x (suc at) y h = (y, h)
set-some (v ∷ xs) (suc i) x zero y h = (y, h)
set-some (v ∷ xs) (suc i) x (suc at) y h = set-some xs i x at y h

pub set-same : {X : Type 0} (xs : List X) (i : ℕ) (x : X) → slice_get xs i ≡ Some x → set xs i x ≡ xs
set-same [] i x h = absurd cc
set-same (v ∷ xs) zero x h = ap (λ y. y ∷ xs) cc
set-same (v ∷ xs) (suc i) x h = ap (λ ys. v ∷ ys) (set-same xs i x h)

get-front : {X : Type 0} (xs ys : List X) (i : ℕ) (x : X) → slice_get xs i ≡ Some x → slice_get (xs ++ ys) i ≡ Some x
get-front [] ys i x h = absurd cc
get-front (y ∷ xs) ys zero x h = h
get-front (y ∷ xs) ys (suc i) x h = get-front xs ys i x h

get-end : {X : Type 0} (xs : List X) (x : X) → slice_get (xs ++ x ∷ []) (length xs) ≡ Some x
get-end [] x = refl
get-end (y ∷ xs) x = get-end xs x

-- a reply that is none of those that refuse says that something was done
pub no_refusal : {K V : Type 0} (reply : DeskReply K V) → (reply ≡ replies.NoPlace → ⊥) → (reply ≡ replies.Busy → ⊥) → ((w : _) → reply ≡ replies.NoSession w → ⊥) → ((r : _) → reply ≡ replies.Refused r → ⊥) → ((n : _) → reply ≡ replies.Behind n → ⊥) → ((n : _) → reply ≡ replies.Ahead n → ⊥) → (x : DeskRefused K V) → reply_of x ≡ reply → ⊥
no_refusal reply full busy none refused behind ahead refusals.NoPlace e = full (sym e)
no_refusal reply full busy none refused behind ahead refusals.Busy e = busy (sym e)
no_refusal reply full busy none refused behind ahead (refusals.NoSession w) e = none w (sym e)
no_refusal reply full busy none refused behind ahead (refusals.Commit r) e = refused r (sym e)
no_refusal reply full busy none refused behind ahead (refusals.Behind n) e = behind n (sym e)
no_refusal reply full busy none refused behind ahead (refusals.Ahead n) e = ahead n (sym e)

-- what holds whatever the answer is
pub if_err : {X E P : Type 0} (r : Result X E) → P → OnErr r P
if_err (Ok x) p = tt
if_err (Err e) p = p

-- what is lent is what there is
pub lent_is : {X : Type 0} (P : X → Type 0) (r : Option (Bor X)) (x : X) → option_copied r ≡ Some x → P x → IfSome r (λ b. P b.now)
lent_is P None x e p = tt
lent_is P (Some b) x e p = let same : b.now ≡ x = cc in subst P (sym same) p

pub lent_some : {X : Type 0} (P : Type 0) (r : Option (Bor X)) (x : X) → option_copied r ≡ Some x → IfNone r P
lent_some P None x e = absurd cc
lent_some P (Some b) x e = tt

module _ {K V : Type 0} where
  kept-room : (old new : State K V) (desk : List (Option (Ticket K V))) (place : ℕ) (p : Option (Version K V)) (s : Option (Ticket K V)) → Serves (record { index = old; desk = desk }) → new ≡ record old { places = set old.places place p } → length new.places ≤ length (set desk place s)
  kept-room old new desk place p s serves e = let k = serves.room in omega (arith, ap (λ (n : State K V). length n.places) e, length-set old.places place p, length-set desk place s)

  -- a session stands where the write didn't go
  kept-open : (old new : State K V) (place : ℕ) (p : Option (Version K V)) (at : ℕ) (v : Version K V) → new ≡ record old { places = set old.places place p } → place ≢ at → IsOpenAt old at v → IsOpenAt new at v
  kept-open old new place p at v e n h = ap (λ (s : State K V). slice_get s.places at) e ∙ set-other old.places place p at n ∙ h

  -- where a session is open with a number and a list, one with the number is
  session_there : (s : State K V) (place : ℕ) (v : Version K V) → IsOpenAt s place v → IsSessionAt s place v.number
  session_there s place v h = subst (λ (o : Option (Option (Version K V))). o ≡ Some (Some (record { number = v.number; pairs = list_there o }))) (sym h) refl

  -- a session that opens is open
  pub session_opened : (cmp : K → K → Ordering) (old new : State K V) (session : OpenSession K V) → Opens cmp old session new → IsSessionOf new session
  session_opened cmp old new session opens =
      let v : Version K V = record { number = session.receipt.number; pairs = present cmp old } in
      session_there new session.place v (ap (λ (x : State K V). slice_get x.places session.place) opens.changed ∙ set-there old.places session.place (Some v) None opens.free)

  -- the same of a ticket, whose session is at the ticket's place
  kept-ticket : (old new : State K V) (place : ℕ) (p : Option (Version K V)) (at : ℕ) (ticket : Ticket K V) → new ≡ record old { places = set old.places place p } → place ≢ at → ticket.session.place ≡ at → IsSessionOf old ticket.session → IsSessionOf new ticket.session
  kept-ticket old new place p at ticket e n here h =
      let v : Version K V = record { number = ticket.session.receipt.number; pairs = list_read old ticket.session } in
      session_there new ticket.session.place v (kept-open old new place p ticket.session.place v e (λ same. n (same ∙ here)) h)

  serves-leave : (old new : State K V) (desk : List (Option (Ticket K V))) (place : ℕ) → Serves (record { index = old; desk = desk }) → Closes old place new → Serves (record { index = new; desk = set desk place None })
  serves-leave old new desk place s closes = record {
    room = kept-room old new desk place None None s closes;
    placed = λ at ticket h. ⊎_elim (λ q. absurd (let d = q.1 in cc)) (λ q. s.placed at ticket q.1) (get-set desk place None at (Some ticket) h);
    opened = λ at ticket h. ⊎_elim (λ q. absurd (let d = q.1 in cc)) (λ q. kept-ticket old new place None at ticket closes q.0 (s.placed at ticket q.1) (s.opened at ticket q.1)) (get-set desk place None at (Some ticket) h);
  }

  pub serves-keep : (cmp : K → K → Ordering) (old new : State K V) (desk : List (Option (Ticket K V))) (ticket : Ticket K V) → Serves (record { index = old; desk = desk }) → Opens cmp old ticket.session new → Serves (record { index = new; desk = set desk ticket.session.place (Some ticket) })
  serves-keep cmp old new desk ticket s opens =
      let place : ℕ = ticket.session.place in
      let v : Version K V = record { number = ticket.session.receipt.number; pairs = present cmp old } in
      let here : IsSessionOf new ticket.session = session_opened cmp old new ticket.session opens in
      record {
        room = kept-room old new desk place (Some v) (Some ticket) s opens.changed;
        placed = λ at one h. ⊎_elim (λ q. let same : one ≡ ticket = (let d = q.1 in cc) in ap (λ (x : Ticket K V). x.session.place) same ∙ q.0) (λ q. s.placed at one q.1) (get-set desk place (Some ticket) at (Some one) h);
        opened = λ at one h. ⊎_elim
            (λ q. let same : one ≡ ticket = (let d = q.1 in cc) in subst (λ (x : Ticket K V). IsSessionOf new x.session) (sym same) here)
            (λ q. kept-ticket old new place (Some v) at one opens.changed q.0 (s.placed at one q.1) (s.opened at one q.1))
            (get-set desk place (Some ticket) at (Some one) h);
      }

  -- a commit moves no session
  pub serves-same : (old new : State K V) (desk : List (Option (Ticket K V))) → Serves (record { index = old; desk = desk }) → new.places ≡ old.places → Serves (record { index = new; desk = desk })
  serves-same old new desk s e = record {
    room = let k = s.room in omega (arith, ap length e);
    placed = s.placed;
    opened = λ at ticket h. subst (λ (ps : List (Option (Version K V))). slice_get ps ticket.session.place ≡ Some (Some (record { number = ticket.session.receipt.number; pairs = list_there (slice_get ps ticket.session.place) }))) (sym e) (s.opened at ticket h);
  }

  empty : (old : State K V) (desk : List (Option (Ticket K V))) (place : ℕ) (x : Option (Ticket K V)) → Serves (record { index = old; desk = desk }) → slice_get old.places place ≡ Some None → slice_get desk place ≡ Some x → slice_get desk place ≡ Some None
  empty old desk place None s free h = h
  empty old desk place (Some ticket) s free h = absurd (let o = s.opened place ticket h in let p = s.placed place ticket h in cc)

  -- the desk has no ticket at a free place
  pub serves-free : (old : State K V) (desk : List (Option (Ticket K V))) (place : ℕ) → Serves (record { index = old; desk = desk }) → slice_get old.places place ≡ Some None → slice_get desk place ≡ Some None
  serves-free old desk place s free =
      let k = s.room in
      let w = slice_get_within old.places place None free in
      ⊎_elim (λ q. empty old desk place q.0 s free q.2) (λ q. absurd (omega (arith, q.0))) (slice_get_cases desk place).1

  -- a session that closes has left
  pub leaves : (old new : State K V) (desk desk' : List (Option (Ticket K V))) (label : ℕ) (receipt : Receipt K V) (ticket : Ticket K V) → Serves (record { index = old; desk = desk }) → (place : ℕ) × IsTicketAt desk label place ticket × (desk' ≡ set desk place None) → receipt ≡ ticket.session.receipt → Closes old ticket.session.place new → ReturnsTicket (record { index = old; desk = desk }) label receipt (record { index = new; desk = desk' }) × Serves (record { index = new; desk = desk' })
  leaves old new desk desk' label receipt ticket s shown gives closes =
      let closed : Closes old shown.0 new = subst (λ p. Closes old p new) (s.placed shown.0 ticket shown.1.there) closes in (
        record { place = shown.0; ticket = ticket; shown = shown.1; gives = gives; closes = closed; left = shown.2 },
        subst (λ rest. Serves (record { index = new; desk = rest })) (sym shown.2) (serves-leave old new desk shown.0 s closed),
      )

  -- a session that opens gets a ticket
  pub takes : (cmp : K → K → Ordering) (old new : State K V) (desk desk' : List (Option (Ticket K V))) (label number : ℕ) (session : OpenSession K V) → IsUnknown desk label → Opens cmp old session new → number ≡ session.receipt.number → desk' ≡ set desk session.place (Some (record { label = label; session = session })) → TakesTicket cmp (record { index = old; desk = desk }) label number (record { index = new; desk = desk' })
  takes cmp old new desk desk' label number session unknown opens told ticketed = record {
    unknown = unknown;
    session = session;
    opens = opens;
    told = told;
    ticketed = ticketed;
  }

  -- the last session of a desk closes: what is left to clear is cleared of the rest
  cleared-last : (desk : List (Option (Ticket K V))) (ticket : Ticket K V) (places : List (Option (Version K V))) → cleared (desk ++ Some ticket ∷ []) places ≡ cleared desk (set places (length desk) None)
  cleared-last [] ticket [] = refl
  cleared-last [] ticket (p ∷ ps) = refl
  cleared-last (d ∷ desk) ticket [] = refl
  cleared-last (None ∷ desk) ticket (p ∷ ps) = ap (λ l. p ∷ l) (cleared-last desk ticket ps)
  cleared-last (Some s ∷ desk) ticket (p ∷ ps) = ap (λ l. None ∷ l) (cleared-last desk ticket ps)

  cleared-free : (desk : List (Option (Ticket K V))) (places : List (Option (Version K V))) → cleared (desk ++ None ∷ []) places ≡ cleared desk places
  cleared-free [] [] = refl
  cleared-free [] (p ∷ ps) = refl
  cleared-free (d ∷ desk) [] = refl
  cleared-free (None ∷ desk) (p ∷ ps) = ap (λ l. p ∷ l) (cleared-free desk ps)
  cleared-free (Some s ∷ desk) (p ∷ ps) = ap (λ l. None ∷ l) (cleared-free desk ps)

  -- a session that closes, or opens, does so with its ticket
  keeps-all-set : (old new : State K V) (desk : List (Option (Ticket K V))) (place : ℕ) (p : Option (Version K V)) (s : Option (Ticket K V)) → new ≡ record old { places = set old.places place p } → ((v : Version K V) → slice_get (set old.places place p) place ≡ Some (Some v) → (ticket : Ticket K V) × (slice_get (set desk place s) place ≡ Some (Some ticket))) → KeepsAll (record { index = old; desk = desk }) → KeepsAll (record { index = new; desk = set desk place s })
  keeps-all-set old new desk place p s e here keeps at v h =
      let read : slice_get (set old.places place p) at ≡ Some (Some v) = ap (λ (x : State K V). slice_get x.places at) (sym e) ∙ h in
      ⊎_elim (λ q. subst (λ a. (ticket : Ticket K V) × (slice_get (set desk place s) a ≡ Some (Some ticket))) q.0 (here v (subst (λ a. slice_get (set old.places place p) a ≡ Some (Some v)) (sym q.0) read)))
      (λ q. let k = keeps at v q.1 in (k.0, set-other desk place s at q.0 ∙ k.1)) (get-set old.places place p at (Some v) read)

  -- a session that has left has no ticket
  pub keeps-all-leave : (old new : Machine K V) (label : ℕ) (receipt : Receipt K V) → ReturnsTicket old label receipt new → KeepsAll old → KeepsAll new
  keeps-all-leave old new label receipt l keeps place number h =
      subst (λ d. (ticket : Ticket K V) × (slice_get d place ≡ Some (Some ticket))) (sym l.left)
      (keeps-all-set old.index new.index old.desk l.place None None l.closes
      (λ n e. absurd (⊎_elim (λ q. let d = q.1 in cc) (λ q. q.0 refl) (get-set old.index.places l.place None l.place (Some n) e))) keeps place number h)

  -- a session that has opened has its ticket
  pub keeps-all-keep : (cmp : K → K → Ordering) (old new : State K V) (desk desk' : List (Option (Ticket K V))) (ticket : Ticket K V) → Opens cmp old ticket.session new → desk' ≡ set desk ticket.session.place (Some ticket) → slice_get desk ticket.session.place ≡ Some None → KeepsAll (record { index = old; desk = desk }) → KeepsAll (record { index = new; desk = desk' })
  keeps-all-keep cmp old new desk desk' ticket opens ticketed free keeps place n h =
      subst (λ d. (ticket : Ticket K V) × (slice_get d place ≡ Some (Some ticket))) (sym ticketed)
      (keeps-all-set old new desk ticket.session.place (Some (record { number = ticket.session.receipt.number; pairs = present cmp old })) (Some ticket) opens.changed
      (λ m e. (ticket, set-there desk ticket.session.place (Some ticket) None free)) keeps place n h)

  pub keeps-all-same : (old new : State K V) (desk : List (Option (Ticket K V))) → new.places ≡ old.places → KeepsAll (record { index = old; desk = desk }) → KeepsAll (record { index = new; desk = desk })
  keeps-all-same old new desk e keeps place number h = keeps place number (ap (λ ps. slice_get ps place) (sym e) ∙ h)

  -- a session that has read keeps its place
  pub serves-read : (index : State K V) (desk : List (Option (Ticket K V))) (label place : ℕ) (ticket : Ticket K V) (session : OpenSession K V) → Serves (record { index = index; desk = desk }) → IsTicketAt desk label place ticket → session.place ≡ ticket.session.place → session.receipt.number ≡ ticket.session.receipt.number → Serves (record { index = index; desk = set desk place (Some (record ticket { session = session })) })
  serves-read index desk label place ticket session s shown same numbered =
      let moved : Ticket K V = record ticket { session = session } in
      let o = s.opened place ticket shown.there in
      let here : IsSessionOf index session = subst (λ p. IsSessionAt index p session.receipt.number) (sym same) (subst (λ n. IsSessionAt index ticket.session.place n) (sym numbered) o) in
      record {
        room = let k = s.room in omega (arith, k, length-set desk place (Some moved));
        placed = λ at one h. ⊎_elim
            (λ q. let is : one ≡ moved = (let d = q.1 in cc) in ap (λ (x : Ticket K V). x.session.place) is ∙ same ∙ s.placed place ticket shown.there ∙ q.0)
            (λ q. s.placed at one q.1) (get-set desk place (Some moved) at (Some one) h);
        opened = λ at one h. ⊎_elim
            (λ q. let is : one ≡ moved = (let d = q.1 in cc) in subst (λ (x : Ticket K V). IsSessionOf index x.session) (sym is) here)
            (λ q. s.opened at one q.1) (get-set desk place (Some moved) at (Some one) h);
      }

  pub keeps-all-read : (index : State K V) (desk : List (Option (Ticket K V))) (place : ℕ) (ticket : Ticket K V) → KeepsAll (record { index = index; desk = desk }) → KeepsAll (record { index = index; desk = set desk place (Some ticket) })
  keeps-all-read index desk place ticket keeps at number h = let k = keeps at number h in set-some desk place ticket at k.0 k.1

  -- a session that left and is kept again
  pub files-again : (desk left desk' : List (Option (Ticket K V))) (place : ℕ) (at : ℕ) (ticket : Ticket K V) → left ≡ set desk place None → at ≡ place → desk' ≡ set left at (Some ticket) → desk' ≡ set desk place (Some ticket)
  files-again desk left desk' place at ticket e same shown = shown ∙ ap (λ p. set left p (Some ticket)) same ∙ ap (λ d. set d place (Some ticket)) e ∙ set-set desk place None (Some ticket)

  pub files-unchanged : (desk desk' : List (Option (Ticket K V))) (label place : ℕ) (ticket again : Ticket K V) → IsTicketAt desk label place ticket → desk' ≡ set desk place (Some again) → again ≡ ticket → desk' ≡ desk
  files-unchanged desk desk' label place ticket again shown e same = e ∙ ap (λ s. set desk place (Some s)) same ∙ set-same desk place (Some ticket) shown.there

  -- from old with its desk, the sessions behind the tickets that are left are closed
  pub record Closing (desk : List (Option (Ticket K V))) (old : State K V) (tickets : List (Option (Ticket K V))) (new : State K V) : Type 0 where
    pub placed : (place : ℕ) (ticket : Ticket K V) → slice_get tickets place ≡ Some (Some ticket) → ticket.session.place ≡ place
    pub opened : (place : ℕ) (ticket : Ticket K V) → slice_get tickets place ≡ Some (Some ticket) → IsSessionOf new ticket.session
    pub places : cleared tickets new.places ≡ cleared desk old.places
    pub others : new ≡ record old { places = new.places }

  closing-free : (desk : List (Option (Ticket K V))) (old : State K V) (tickets rest : List (Option (Ticket K V))) (new : State K V) → tickets ≡ rest ++ None ∷ [] → Closing desk old tickets new → Closing desk old rest new
  closing-free desk old tickets rest new e c = record {
    placed = λ place ticket h. c.placed place ticket (rw e (get-front rest (None ∷ []) place (Some ticket) h));
    opened = λ place ticket h. c.opened place ticket (rw e (get-front rest (None ∷ []) place (Some ticket) h));
    places = sym (cleared-free rest new.places) ∙ ap (λ s. cleared s new.places) (sym e) ∙ c.places;
    others = c.others;
  }

  closing-ticket : (desk : List (Option (Ticket K V))) (old : State K V) (tickets rest : List (Option (Ticket K V))) (ticket : Ticket K V) (mid new : State K V) → tickets ≡ rest ++ Some ticket ∷ [] → Closes mid ticket.session.place new → Closing desk old tickets mid → Closing desk old rest new
  closing-ticket desk old tickets rest ticket mid new e closes c =
      let here : ticket.session.place ≡ length rest = c.placed (length rest) ticket (rw e (get-end rest (Some ticket))) in
      let front : (place : ℕ) (one : Ticket K V) → slice_get rest place ≡ Some (Some one) → slice_get tickets place ≡ Some (Some one) = λ place one h. rw e (get-front rest (Some ticket ∷ []) place (Some one) h) in
      record {
        placed = λ place one h. c.placed place one (front place one h);
        opened = λ place one h.
            let within : place < length rest = slice_get_within rest place (Some one) h in
            kept-ticket mid new ticket.session.place None place one closes (λ same. omega (arith, within, same, here)) (c.placed place one (front place one h)) (c.opened place one (front place one h));
        places =
            ap (λ (s : State K V). cleared rest s.places) closes ∙ ap (λ p. cleared rest (set mid.places p None)) here ∙ sym (cleared-last rest ticket mid.places)
            ∙ ap (λ s. cleared s mid.places) (sym e) ∙ c.places;
        others =
            closes ∙ ap (λ (m : State K V). record m { places = set mid.places ticket.session.place None }) c.others
            ∙ ap (λ (ps : List (Option (Version K V))). record old { places = ps }) (sym (ap (λ (x : State K V). x.places) closes));
      }

  -- one ticket less is left
  pub closing-one : (desk : List (Option (Ticket K V))) (old : State K V) (tickets rest : List (Option (Ticket K V))) (ticket : Option (Ticket K V)) (mid new : State K V) → tickets ≡ rest ++ ticket ∷ [] → MatchOption ticket (new ≡ mid) (λ s. Closes mid s.session.place new) → Closing desk old tickets mid → Closing desk old rest new
  closing-one desk old tickets rest None mid new e same c = subst (Closing desk old rest) (sym same) (closing-free desk old tickets rest mid e c)
  closing-one desk old tickets rest (Some ticket) mid new e closes c = closing-ticket desk old tickets rest ticket mid new e closes c

  -- the session of the last ticket is open
  pub closing-open : (desk : List (Option (Ticket K V))) (old : State K V) (tickets rest : List (Option (Ticket K V))) (ticket : Option (Ticket K V)) (mid : State K V) → tickets ≡ rest ++ ticket ∷ [] → Closing desk old tickets mid → IfSome ticket (λ s. IsSessionOf mid s.session)
  closing-open desk old tickets rest None mid e c = tt
  closing-open desk old tickets rest (Some ticket) mid e c = c.opened (length rest) ticket (rw e (get-end rest (Some ticket)))

module _ {K V : Type 0} (cmp : K → K → Ordering) (width : ℕ) where
  -- a run goes on by one step
  pub Run-push : (old mid new : Machine K V) (calls : List (DeskCall K V)) (replies : List (DeskReply K V)) (call : DeskCall K V) (reply : DeskReply K V) → Run cmp width old calls replies mid → Step cmp width mid call reply new → Run cmp width old (calls ++ call ∷ []) (replies ++ reply ∷ []) new
  Run-push old mid new [] [] call reply run step = (new, subst (λ m. Step cmp width m call reply new) run step, refl)
  Run-push old mid new [] (r ∷ replies) call reply run step = absurd run
  Run-push old mid new (c ∷ calls) [] call reply run step = absurd run
  Run-push old mid new (c ∷ calls) (r ∷ replies) call reply run step = (run.0, run.1, Run-push run.0 mid new calls replies call reply run.2 step)

  -- one call more was made
  pub played-more : (old mid new : Machine K V) (done : List (DeskCall K V)) (replies replies' : List (DeskReply K V)) (call : DeskCall K V) (reply : DeskReply K V) → replies' ≡ replies ++ reply ∷ [] → Run cmp width old done replies mid → Step cmp width mid call reply new → Run cmp width old (done ++ call ∷ []) replies' new
  played-more old mid new done replies replies' call reply e run step = subst (λ rs. Run cmp width old (done ++ call ∷ []) rs new) (sym e) (Run-push old mid new done replies call reply run step)

  -- where the calls in front were made, and one more was taken
  pub stopped : (old new : Machine K V) (all done rest : List (DeskCall K V)) (call : DeskCall K V) (replies : List (DeskReply K V)) → done ++ call ∷ rest ≡ all → Run cmp width old done replies new → (n : ℕ) × (n < length all) × Run cmp width old (take n all) replies new
  stopped old new all done rest call replies e run = (
    length done,
    omega (arith, ap length e, length-append done (call ∷ rest)),
    subst (λ front. Run cmp width old front replies new) (sym (ap (take (length done)) (sym e) ∙ take_at done (call ∷ rest) (length done) refl)) run,
  )

  -- a session that was read stays where it is, whatever it was answered
  pub read-there : (s : State K V) (query : Query K) (answer : Result (Answer K V) AllocError) (old new : OpenSession K V) → IfOk answer (λ a. Reads cmp s old query a new) → OnErr answer (new ≡ old) → (new.place ≡ old.place) × (new.receipt.number ≡ old.receipt.number)
  read-there s query (Ok a) old new reads refused = (ap (λ (x : OpenSession K V). x.place) reads.recorded, ap (λ (x : OpenSession K V). x.receipt.number) reads.recorded)
  read-there s query (Err e) old new reads refused = (ap (λ (x : OpenSession K V). x.place) refused, ap (λ (x : OpenSession K V). x.receipt.number) refused)
