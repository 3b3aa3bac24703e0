-- One byte more of a line that was played so far. Assumes nothing.
use Rattle.std.proofs.Common.{ℕ, List, [], ◌∷◌, ◌++◌, Some, None, Option, sym, ap, ◌∙◌, subst, append_assoc, append-nil}
use Rattle.std.specs.Option.{option_to_list}
use Rattle.chest.specs.Meaning.{Meaning}
use Rattle.midi.specs.declared.message.Message.{Message}
use Rattle.midi.specs.declared.state.State.{State}
use Rattle.midi.specs.Reading.{reading}
use Rattle.midi.specs.State.{HasRead, Feeds}
use Rattle.console.specs.declared.console.Console.{Console}
use Rattle.console.specs.Model.{Setup, Model}
use Rattle.organ.specs.Answered.{Answered}
use Rattle.organ.proofs.Answering.{answered_none, answered_more}
use Rattle.recital.specs.declared.recital.Recital.{Recital}
use Rattle.recital.specs.Recital.{Response, Hears, GoesOn}

feeds_none : (s : State) → Feeds s [] [] s
feeds_none s =
    record { reads = λ line e. subst (HasRead s) (sym (append-nil line)) e; adds = λ line e. ap reading (append-nil line) ∙ sym (append-nil (reading line)) }

-- bytes after bytes
feeds_more : (s t u : State) (bs cs : List ℕ) (ms ns : List Message) → Feeds s bs ms t → Feeds t cs ns u → Feeds s (bs ++ cs) (ms ++ ns) u
feeds_more s t u bs cs ms ns f g =
    record {
      reads = λ line e. subst (HasRead u) (append_assoc line bs cs) (g.reads (line ++ bs) (f.reads line e));
      adds = λ line e. ap reading (sym (append_assoc line bs cs)) ∙ g.adds (line ++ bs) (f.reads line e) ∙ ap (λ l. l ++ ns) (f.adds line e) ∙ append_assoc (reading line) ms ns;
    }

module _ {C : Type 0} {meaning : C → Meaning} {settled : C → Type 0} where
  -- one message more, if there is one
  answered-so : {c : Console C} {s : Setup} {p : Model} (d e : Console C) (ms : List Message) (before mid after : List ℕ) (m : Option Message) → Answered meaning settled c d s p ms before mid → Response meaning settled m d e mid after → Answered meaning settled c e s p (ms ++ option_to_list m) before after
  answered-so {c} {s} {p} d e ms before mid after None old r =
      subst (λ x. Answered meaning settled c e s p x before after) (sym (append-nil ms)) (subst (λ x. Answered meaning settled c x s p ms before after) (sym r.0) (subst (λ x. Answered meaning settled c d s p ms before x) (sym r.1) old))
  answered-so d e ms before mid after (Some m) old r = answered_more m old r

  pub goes_none : (r : Recital C) (xs : List ℕ) → GoesOn meaning settled r r [] xs xs
  goes_none r xs =
      record { messages = []; feeds = feeds_none r.reader.state; answered = λ s p t. answered_none xs t }

  pub goes_more : (r q w : Recital C) (bs before mid after : List ℕ) (b : ℕ) → GoesOn meaning settled r q bs before mid → Hears meaning settled q w b mid after → GoesOn meaning settled r w (bs ++ b ∷ []) before after
  goes_more r q w bs before mid after b old new =
      record {
        messages = old.messages ++ option_to_list new.message;
        feeds = feeds_more r.reader.state q.reader.state w.reader.state bs (b ∷ []) old.messages (option_to_list new.message) old.feeds new.feeds;
        answered = λ s p t. answered-so q.console w.console old.messages before mid after new.message (old.answered s p t) new.response;
      }
