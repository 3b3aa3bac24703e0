-- A line played on a new organ is a service, and what a service lists is the model's. Assumes nothing.
use Rattle.std.proofs.Common.{◌≡◌, ℕ, cond, List, [], ◌∷◌, ◌++◌, map, Ok, Err, Result, sym, refl, ap, ◌∙◌, subst, arith}
use Rattle.std.specs.List.{flat_map}
use Rattle.chest.specs.Places.{Places, changed}
use Rattle.chest.specs.Meaning.{Meaning}
use Rattle.midi.specs.declared.message.Message.{Message}
use Rattle.midi.specs.Reading.{reading}
use Rattle.midi.specs.State.{HasRead}
use Rattle.book.specs.declared.book.Book.{Book}
use Rattle.book.specs.Book.{keys_in}
use Rattle.board.specs.Relay.{RelayBoard, meaning_of, Settled}
use Rattle.console.specs.declared.call.Call.{Call}
use Rattle.console.specs.Model.{Setup, Model, first, check, after}
use Rattle.console.specs.Record.{Answer, Entry, EntryLaw, RecordLaw, pipes_of, strobing, answer_of}
use Rattle.organ.specs.declared.action.Action.{Action}
use Rattle.organ.specs.declared.action.Action.TheVariants.{Nothing, Perform, LowNote}
use Rattle.organ.specs.declared.refusal.Refusal.{Refusal}
use Rattle.organ.specs.Action.{action_of, low_note}
use Rattle.organ.specs.declared.line.Line.TheVariants.{Fault}
use Rattle.organ.specs.Assembly.{Hung, stack_meaning}
use Rattle.organ.specs.Answered.{Outcome, silent, low, did, IsOf, AreOf, call_in, answer_in, line_in}
use Rattle.organ.specs.Line.{line_bytes}
use Rattle.organ.specs.Opening.{Opens, book_setup, organ_meaning}
use Rattle.organ.specs.Responses.{line_of}
use Rattle.recital.specs.declared.recital.Recital.{Recital}
use Rattle.recital.specs.Recital.{GoesOn}
use Rattle.recital.specs.Performing.{Service, Gives}
use Rattle.recital.specs.Listings.{model_answer, action_line, action_after, message_lines, organ_listing}

module _ {C : Type 0} (meaning : C → Meaning) (settled : C → Type 0) (b : Book) (m : Meaning) where
  -- a new reader and a new organ, and all bytes of the line
  pub serves : (h : Result Hung Refusal) (r q : Recital (RelayBoard (RelayBoard C))) (bytes before after : List ℕ) → Opens meaning settled b m h (Ok r.console) → HasRead r.reader.state [] → GoesOn (meaning_of (meaning_of meaning)) (Settled (meaning_of meaning) (Settled meaning settled)) r q bytes before after → (given : List ℕ) × (after ≡ before ++ given) × Gives (book_setup b) (stack_meaning (keys_in b) m) h bytes given
  serves (Ok h) r q bytes before after opens new goes =
      let all = goes.answered (book_setup b) (first (book_setup b)) opens.1 in (
        flat_map line_in all.outcomes,
        all.lines,
        record {
          made = organ_meaning meaning settled r.console;
          making = opens.0;
          outcomes = all.outcomes;
          are = subst (λ ms. AreOf ms all.outcomes) (sym (goes.feeds.adds [] new)) all.are;
          entries = all.recorded.entries;
          calls = all.recorded.calls_are;
          answers = all.recorded.answers_are;
          law = all.recorded.law;
          lines = refl;
        },
      )
  serves (Err e) r q bytes before after opens new goes = absurd opens

module _ (s : Setup) (stack : Meaning) where
  -- from an entry on: the chest has the stack's rule, and the pipes that speak are the rule's for the model
  abbrev pub Told : List Message → List Outcome → Type 0
  Told ms os =
      (es : List Entry) (m : Meaning) (p : Model)
      → m.rule ≡ stack.rule → m.speaking ≡ pipes_of stack p
      → map (λ e. e.call) es ≡ flat_map call_in os → map (λ e. e.answer) es ≡ flat_map answer_in os
      → RecordLaw s m p es → flat_map line_in os ≡ message_lines s stack p ms

  -- an entry's answer is the model's, and the pipes that speak after it are the rule's
  module _ (m : Meaning) (p : Model) (e : Entry) (rule : m.rule ≡ stack.rule) (speaks : m.speaking ≡ pipes_of stack p) (law : EntryLaw s m p e) where
    speaks_on : e.chest.speaking ≡ pipes_of stack (after s p e.call)
    speaks_on = law.speaks ∙ ap (λ (f : (ℕ → ℕ) → Places → Places). pipes_of (record { reach = m.reach; register = m.register; panel = m.panel; speaking = m.speaking; strobes = m.strobes; rule = f }) (after s p e.call)) rule

    answers_so : e.answer ≡ model_answer s stack p e.call
    answers_so =
        law.answers ∙ (λ i. answer_of (check s p e.call) (cond (strobing e.call) (changed (speaks i) (speaks_on i)) 0))

  module _ (ms : List Message) (os : List Outcome) (rest : Told ms os) where
    call_told : (call : Call) (r : Answer) (es : List Entry) (m : Meaning) (p : Model) → m.rule ≡ stack.rule → m.speaking ≡ pipes_of stack p → map (λ e. e.call) es ≡ call ∷ flat_map call_in os → map (λ e. e.answer) es ≡ r ∷ flat_map answer_in os → RecordLaw s m p es → line_bytes (line_of r) ++ flat_map line_in os ≡ line_bytes (line_of (model_answer s stack p call)) ++ message_lines s stack (after s p call) ms
    call_told call r [] m p rule speaks calls answers law = absurd (let z : ◌≡◌ {A = ℕ} 0 1 = cc in omega arith)
    call_told call r (e ∷ es) m p rule speaks calls answers law =
        let same : e.call ≡ call = cc in
        let more : map (λ x. x.call) es ≡ flat_map call_in os = cc in
        let given : e.answer ≡ r = cc in
        let more-answers : map (λ x. x.answer) es ≡ flat_map answer_in os = cc in
        let tail = rest es e.chest (after s p e.call) (law.0.rule ∙ rule) (speaks_on m p e rule speaks law.0) more more-answers law.1 in
        ap (λ x. line_bytes (line_of x) ++ flat_map line_in os) (sym given ∙ answers_so m p e rule speaks law.0)
        ∙ ap (λ x. line_bytes (line_of (model_answer s stack p e.call)) ++ x) tail
        ∙ ap (λ x. line_bytes (line_of (model_answer s stack p x)) ++ message_lines s stack (after s p x) ms) same

    told_more : (a : Action) (o : Outcome) → IsOf a o → (es : List Entry) (m : Meaning) (p : Model) → m.rule ≡ stack.rule → m.speaking ≡ pipes_of stack p → map (λ e. e.call) es ≡ call_in o ++ flat_map call_in os → map (λ e. e.answer) es ≡ answer_in o ++ flat_map answer_in os → RecordLaw s m p es → line_in o ++ flat_map line_in os ≡ action_line s stack p a ++ message_lines s stack (action_after s p a) ms
    told_more Nothing silent is es m p rule speaks calls answers law = rest es m p rule speaks calls answers law
    told_more Nothing (low e k) is es m p rule speaks calls answers law = absurd is
    told_more Nothing (did call r) is es m p rule speaks calls answers law = absurd is
    told_more (Perform c) silent is es m p rule speaks calls answers law = absurd is
    told_more (Perform c) (low e k) is es m p rule speaks calls answers law = absurd is
    told_more (Perform c) (did call r) is es m p rule speaks calls answers law =
        subst (λ x. line_bytes (line_of r) ++ flat_map line_in os ≡ line_bytes (line_of (model_answer s stack p x)) ++ message_lines s stack (after s p x) ms) is (call_told call r es m p rule speaks calls answers law)
    told_more (LowNote d n) silent is es m p rule speaks calls answers law = absurd is
    told_more (LowNote d n) (low e k) is es m p rule speaks calls answers law =
        λ i. line_bytes (Fault (low_note (is.0 i) (is.1 i))) ++ rest es m p rule speaks calls answers law i
    told_more (LowNote d n) (did call r) is es m p rule speaks calls answers law = absurd is

  pub told : (ms : List Message) (os : List Outcome) → AreOf ms os → Told ms os
  told [] [] are es m p rule speaks calls answers law = refl
  told [] (o ∷ os) are es m p rule speaks calls answers law = absurd are
  told (x ∷ ms) [] are es m p rule speaks calls answers law = absurd are
  told (x ∷ ms) (o ∷ os) are es m p rule speaks calls answers law =
      told_more ms os (told ms os are.1) (action_of x) o are.0 es m p rule speaks calls answers law

  determined : (bytes given : List ℕ) → Service s stack bytes given → given ≡ message_lines s stack (first s) (reading bytes)
  determined bytes given v =
      v.lines ∙ told (reading bytes) v.outcomes v.are v.entries v.made (first s) v.making.rule v.making.speaks v.calls v.answers v.law

pub given_is : (s : Setup) (stack : Hung → Meaning) (h : Result Hung Refusal) (bytes given : List ℕ) → Gives s stack h bytes given → given ≡ organ_listing s stack h bytes
given_is s stack (Ok h) bytes given v = determined s (stack h) bytes given v
given_is s stack (Err r) bytes given e = e
