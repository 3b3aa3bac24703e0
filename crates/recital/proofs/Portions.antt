-- A recital that begins, and one that has been played a line and is played more. Assumes nothing.
use Rattle.std.proofs.Common.{◌≡◌, ℕ, List, [], ◌∷◌, ◌++◌, map, Ok, Err, Result, sym, refl, ap, ◌∙◌, subst, append_assoc, arith}
use Rattle.std.specs.List.{flat_map}
use Rattle.chest.specs.Places.{Places}
use Rattle.chest.specs.Meaning.{Meaning}
use Rattle.midi.specs.declared.message.Message.{Message}
use Rattle.midi.specs.Reading.{reading}
use Rattle.midi.specs.State.{HasRead}
use Rattle.book.specs.declared.book_fault.BookFault.{BookFault}
use Rattle.book.specs.declared.book.Book.{Book}
use Rattle.book.specs.Book.{pipes_in}
use Rattle.book.specs.Entry.{Entry as Written, Holds}
use Rattle.book.specs.Reading.{Answers, read_of}
use Rattle.board.specs.Relay.{RelayBoard, meaning_of, Settled}
use Rattle.console.specs.declared.call.Call.{Call}
use Rattle.console.specs.Keys.{sounding}
use Rattle.console.specs.Model.{Setup, Model, first, after}
use Rattle.console.specs.Record.{Entry, RecordLaw, last_meaning, last_model, pipes_of}
use Rattle.console.specs.Tracks.{Tracks}
use Rattle.organ.specs.declared.action.Action.{Action}
use Rattle.organ.specs.declared.action.Action.TheVariants.{Nothing, Perform, LowNote}
use Rattle.organ.specs.declared.refusal.Refusal.{Refusal}
use Rattle.organ.specs.Action.{action_of}
use Rattle.organ.specs.Assembly.{Hung}
use Rattle.organ.specs.Answered.{Outcome, silent, low, did, IsOf, AreOf, call_in, line_in, Answered}
use Rattle.organ.specs.Opening.{Opens, OrganTracks, new_ranks}
use Rattle.recital.specs.declared.recital.Recital.{Recital}
use Rattle.recital.specs.Described.{setup_said, hung_said, stack_said, book_hung}
use Rattle.recital.specs.Listings.{action_after, model_after, action_line, message_lines, organ_listing, book_listing, listing_of}
use Rattle.recital.specs.Recital.{GoesOn, CaughtUp, ListsOn}
use Rattle.recital.proofs.Descriptions.{setup-is, hung-is, stack_is}
use Rattle.recital.proofs.Services.{told}

-- messages after messages
model_append : (s : Setup) (p : Model) (ms ns : List Message) → model_after s p (ms ++ ns) ≡ model_after s (model_after s p ms) ns
model_append s p [] ns = refl
model_append s p (m ∷ ms) ns = model_append s (action_after s p (action_of m)) ms ns

lines_append : (s : Setup) (stack : Meaning) (p : Model) (ms ns : List Message) → message_lines s stack p (ms ++ ns) ≡ message_lines s stack p ms ++ message_lines s stack (model_after s p ms) ns
lines_append s stack p [] ns = refl
lines_append s stack p (m ∷ ms) ns =
    let q = action_after s p (action_of m) in
    ap (λ l. action_line s stack p (action_of m) ++ l) (lines_append s stack q ms ns) ∙ sym (append_assoc (action_line s stack p (action_of m)) (message_lines s stack q ms) (message_lines s stack (model_after s q ms) ns))

-- a record keeps the rule
rule-kept : (s : Setup) (m : Meaning) (p : Model) (es : List Entry) → RecordLaw s m p es → (last_meaning m es).rule ≡ m.rule
rule-kept s m p [] law = refl
rule-kept s m p (e ∷ es) law = rule-kept s e.chest (after s p e.call) es law.1 ∙ law.0.rule

-- the model that a record leaves is the one after the messages
module _ (s : Setup) where
  abbrev SameModel : List Message → List Outcome → Type 0
  SameModel ms os =
      (es : List Entry) (p : Model) → map (λ e. e.call) es ≡ flat_map call_in os → last_model s p es ≡ model_after s p ms

  module _ (ms : List Message) (os : List Outcome) (rest : SameModel ms os) where
    called : (call : Call) (es : List Entry) (p : Model) → map (λ e. e.call) es ≡ call ∷ flat_map call_in os → last_model s p es ≡ model_after s (after s p call) ms
    called call [] p calls = absurd (let z : ◌≡◌ {A = ℕ} 0 1 = cc in omega arith)
    called call (e ∷ es) p calls =
        let same : e.call ≡ call = cc in
        let more : map (λ x. x.call) es ≡ flat_map call_in os = cc in
        rest es (after s p e.call) more ∙ ap (λ x. model_after s (after s p x) ms) same

    model_more : (a : Action) (o : Outcome) → IsOf a o → (es : List Entry) (p : Model) → map (λ e. e.call) es ≡ call_in o ++ flat_map call_in os → last_model s p es ≡ model_after s (action_after s p a) ms
    model_more Nothing silent is es p calls = rest es p calls
    model_more Nothing (low e k) is es p calls = absurd is
    model_more Nothing (did call r) is es p calls = absurd is
    model_more (Perform c) silent is es p calls = absurd is
    model_more (Perform c) (low e k) is es p calls = absurd is
    model_more (Perform c) (did call r) is es p calls = called call es p calls ∙ ap (λ x. model_after s (after s p x) ms) is
    model_more (LowNote d n) silent is es p calls = absurd is
    model_more (LowNote d n) (low e k) is es p calls = rest es p calls
    model_more (LowNote d n) (did call r) is es p calls = absurd is

  models : (ms : List Message) (os : List Outcome) → AreOf ms os → SameModel ms os
  models [] [] are [] p calls = refl
  models [] [] are (e ∷ es) p calls = absurd (let z : ◌≡◌ {A = ℕ} 0 1 = cc in omega arith)
  models [] (o ∷ os) are es p calls = absurd are
  models (m ∷ ms) [] are es p calls = absurd are
  models (m ∷ ms) (o ∷ os) are es p calls =
      model_more ms os (models ms os are.1) (action_of m) o are.0 es p calls

-- the listing of a text with these forms and wires
pub listing_on : (text bytes : List ℕ) (es : List Written) (h : Result Hung Refusal) → read_of text ≡ Ok es → hung_said es ≡ h → listing_of text bytes ≡ organ_listing (setup_said es) (stack_said es) h bytes
listing_on text bytes es h read wired =
    ap (λ x. book_listing x bytes) read ∙ ap (λ x. organ_listing (setup_said es) (stack_said es) x bytes) wired

module _ {C : Type 0} {meaning : C → Meaning} {settled : C → Type 0} (r q : Recital C) (bytes before next text line : List ℕ) (goes : GoesOn meaning settled r q bytes before next) (u : CaughtUp meaning settled r text line) where
  abbrev s : Setup
  s = setup_said u.forms

  abbrev stack : Meaning
  stack = stack_said u.forms u.hung

  abbrev now : Model
  now = model_after s (first s) (reading line)

  abbrev answered : Answered meaning settled r.console q.console s now goes.messages before next
  answered = goes.answered s now u.tracks

  abbrev given : List ℕ
  given = flat_map line_in answered.outcomes

  reads : reading (line ++ bytes) ≡ reading line ++ goes.messages
  reads = goes.feeds.adds line u.heard

  model : last_model s now answered.recorded.entries ≡ model_after s (first s) (reading (line ++ bytes))
  model =
      models s goes.messages answered.outcomes answered.are answered.recorded.entries now answered.recorded.calls_are
      ∙ sym (model_append s (first s) (reading line) goes.messages) ∙ sym (ap (model_after s (first s)) reads)

  speaks : (meaning r.console.chest).speaking ≡ pipes_of stack now
  speaks =
      u.tracks.agrees.speaks ∙ ap (λ (f : (ℕ → ℕ) → Places → Places). f now.panel (sounding now.keys)) u.rule

  lines : given ≡ message_lines s stack now goes.messages
  lines =
      told s stack goes.messages answered.outcomes answered.are answered.recorded.entries (meaning r.console.chest) now u.rule speaks answered.recorded.calls_are answered.recorded.answers_are answered.recorded.law

  more : listing_of text (line ++ bytes) ≡ listing_of text line ++ given
  more =
      listing_on text (line ++ bytes) u.forms (Ok u.hung) u.read u.wired
      ∙ ap (message_lines s stack (first s)) reads
      ∙ lines_append s stack (first s) (reading line) goes.messages
      ∙ ap (λ l. message_lines s stack (first s) (reading line) ++ l) (sym lines)
      ∙ ap (λ l. l ++ given) (sym (listing_on text line u.forms (Ok u.hung) u.read u.wired))

  pub lists_on : ListsOn meaning settled q bytes before next text line
  lists_on =
      record {
        caught_up = record {
          forms = u.forms;
          read = u.read;
          hung = u.hung;
          wired = u.wired;
          heard = goes.feeds.reads line u.heard;
          tracks = subst (Tracks meaning settled q.console s) model answered.recorded.tracks;
          rule = ap (λ m. m.rule) (sym answered.recorded.ends) ∙ rule-kept s (meaning r.console.chest) now answered.recorded.entries answered.recorded.law ∙ u.rule;
        };
        given = given;
        grows = answered.lines;
        more = more;
      }

-- a new recital has been played nothing
module _ {C : Type 0} (meaning : C → Meaning) (settled : C → Type 0) (b : Book) (q : Recital (RelayBoard (RelayBoard C))) (text : List ℕ) (new : HasRead q.reader.state []) where
  abbrev Begun : Type 0
  Begun = CaughtUp (meaning_of (meaning_of meaning)) (Settled (meaning_of meaning) (Settled meaning settled)) q text []

  on-organ : (es : List Written) → read_of text ≡ Ok es → Holds b es → (h : Result Hung Refusal) → book_hung b ≡ h → Opens meaning settled b (new_ranks (pipes_in b)) h (Ok q.console) → Begun
  on-organ es read holds (Ok h) hung opens =
      record {
        forms = es;
        read = read;
        hung = h;
        wired = sym (hung-is b es holds) ∙ hung;
        heard = new;
        tracks = subst (λ x. OrganTracks meaning settled q.console x (first x)) (setup-is b es holds) opens.1;
        rule = opens.0.rule ∙ ap (λ m. m.rule) (stack_is b es holds h);
      }
  on-organ es read holds (Err e) hung opens = absurd opens

  of_book : (x : Result (List Written) BookFault) → read_of text ≡ x → Answers (Ok b) x → Opens meaning settled b (new_ranks (pipes_in b)) (book_hung b) (Ok q.console) → Begun
  of_book (Ok es) read holds opens = on-organ es read holds (book_hung b) refl opens
  of_book (Err e) read holds opens = absurd holds

  pub begun : Answers (Ok b) (read_of text) → Opens meaning settled b (new_ranks (pipes_in b)) (book_hung b) (Ok q.console) → Begun
  begun answers opens = of_book (read_of text) refl answers opens
