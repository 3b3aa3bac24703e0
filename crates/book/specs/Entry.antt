-- What a book's forms say, each with its line: the meaning of a book. Assumes nothing.
use Rattle.std.specs.Prelude.{◌≡◌, ℕ, ◌<◌, ◌≤◌, Bool, cond, List, [], ◌∷◌, ◌++◌, length, is_some, Some, None, Option, ◌==◌, nat_le}
use Rattle.book.specs.declared.form.Form.{Form}
use Rattle.book.specs.declared.form.Form.TheVariants as form
use Rattle.book.specs.declared.book.Book.{Book}
use Rattle.book.specs.declared.book.BookWire.{BookWire}
use Rattle.book.specs.Limits.{rows, most_places, knobs, pistons, most_wires, Sound, Ordered}
use Rattle.fittings.specs.Tables.{place_at}
use Rattle.fittings.specs.declared.Knob.{Knob}
use Rattle.fittings.specs.declared.Scope.{Scope}

-- a form and the line that it stands on
pub record Entry : Type 0 where
  pub line : ℕ
  pub form : Form

-- what the first entry that says something says
abbrev pub first_said : {X : Type 0} → Option X → Option X → Option X
first_said None o = o
first_said (Some x) o = Some x

abbrev pub said : {X : Type 0} → (Form → Option X) → List Entry → Option X
said says [] = None
said says (e ∷ es) = first_said (says e.form) (said says es)

-- what one form says of division r, rank r, knob k and piston p
abbrev pub keys_of : ℕ → Form → Option ℕ
keys_of r (form.Keys row reach) = cond (r == row) (Some reach) None
keys_of r (form.Rank row reach) = None
keys_of r (form.Knob knob steps home) = None
keys_of r (form.Piston piston lowest highest) = None
keys_of r (form.Wire board wire) = None

abbrev pub pipes_of : ℕ → Form → Option ℕ
pipes_of r (form.Keys row reach) = None
pipes_of r (form.Rank row reach) = cond (r == row) (Some reach) None
pipes_of r (form.Knob knob steps home) = None
pipes_of r (form.Piston piston lowest highest) = None
pipes_of r (form.Wire board wire) = None

abbrev pub knob_of : ℕ → Form → Option Knob
knob_of k (form.Keys row reach) = None
knob_of k (form.Rank row reach) = None
knob_of k (form.Knob knob steps home) = cond (k == knob) (Some (record { steps = steps; home = home })) None
knob_of k (form.Piston piston lowest highest) = None
knob_of k (form.Wire board wire) = None

abbrev pub scope_of : ℕ → Form → Option Scope
scope_of p (form.Keys row reach) = None
scope_of p (form.Rank row reach) = None
scope_of p (form.Knob knob steps home) = None
scope_of p (form.Piston piston lowest highest) = cond (p == piston) (Some (record { lowest = lowest; highest = highest })) None
scope_of p (form.Wire board wire) = None

-- the wires in their order, each with its line
abbrev pub wire_of : Entry → List BookWire
wire_of e = elim e.form [ form.Keys row reach ↦ [] | form.Rank row reach ↦ [] | form.Knob knob steps home ↦ [] | form.Piston piston lowest highest ↦ [] | form.Wire board wire ↦ record { line = e.line; board = board; wire = wire } ∷ [] ]

abbrev pub wires_of : List Entry → List BookWire
wires_of [] = []
wires_of (e ∷ es) = wire_of e ++ wires_of es

-- whether the entries leave no room for a form: its row, knob or piston is given, or there are as many wires as may be
abbrev pub taken : List Entry → Form → Bool
taken es (form.Keys row reach) = is_some (said (keys_of row) es)
taken es (form.Rank row reach) = is_some (said (pipes_of row) es)
taken es (form.Knob knob steps home) = is_some (said (knob_of knob) es)
taken es (form.Piston piston lowest highest) = is_some (said (scope_of piston) es)
taken es (form.Wire board wire) = nat_le most_wires (length (wires_of es))

-- every number of a form is in its range; a wire's are only held to their count of digits
abbrev pub InRange : Form → Type 0
InRange (form.Keys row reach) = (row < rows) × (reach ≤ most_places)
InRange (form.Rank row reach) = (row < rows) × (reach ≤ most_places)
InRange (form.Knob knob steps home) = (knob < knobs) × Sound steps home
InRange (form.Piston piston lowest highest) = (piston < pistons) × Ordered lowest highest
InRange (form.Wire board wire) = Unit {0}

-- the record says what the entries say
pub record Holds (b : Book) (es : List Entry) : Type 0 where
  pub divisions : (r : ℕ) → r < rows → place_at b.divisions r ≡ said (keys_of r) es
  pub ranks : (r : ℕ) → r < rows → place_at b.ranks r ≡ said (pipes_of r) es
  pub knobs : (k : ℕ) → k < knobs → place_at b.knobs k ≡ said (knob_of k) es
  pub pistons : (p : ℕ) → p < pistons → place_at b.pistons p ≡ said (scope_of p) es
  pub wires : b.wires.items ≡ wires_of es
