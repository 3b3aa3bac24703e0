-- A board to which something is fitted while no key is set. Assumes nothing.
use Rattle.std.proofs.Common.{◌≡◌, cond, is_ok, Ok, Err, Result, OnOk, OnErr, sym, ap, subst, ◌∙◌}
use Rattle.std.specs.Prelude.{true}
use Rattle.chest.specs.Places.{none}
use Rattle.chest.specs.Meaning.{Meaning}
use Rattle.coupling.specs.Some.{is_free}
use Rattle.coupling.specs.Layout.{Image, Layout, Sound, Stands, with_image}
use Rattle.coupling.specs.Board.{board_meaning}
use Rattle.coupling.specs.Fitting.{fit_after}
use Rattle.coupling.proofs.Some.{free_of}

-- with no key set a board stands with another image
image_stands : (l : Layout) (m : Meaning) (image : Image) → Sound l → Sound (with_image l image) → is_free l.register ≡ true → Stands l m → Stands (with_image l image) m
image_stands l m image was is free st =
    record { reach = st.reach; panel = st.panel; register = st.register ∙ ap (l.image m.reach m.panel) empty ∙ was.silent m.reach m.panel ∙ sym (ap (image m.reach m.panel) empty ∙ is.silent m.reach m.panel) }
  where
    empty : l.register ≡ none
    empty = λ i r p. free_of l was free r p i

-- the offer is taken, and just the image changes; or it is refused, and nothing does
pub fitted_board : {E : Type 0} (l l' : Layout) (image : Image) (m : Meaning) (result answer : Result Unit E) → Sound l → Sound l' → result ≡ answer → (answer ≡ Ok tt → is_free l.register ≡ true) → OnErr result (l' ≡ l) → OnOk result (l' ≡ with_image l image) → Stands l m → Stands l' m × (board_meaning l' m ≡ fit_after answer l image m)
fitted_board l l' image m (Ok u) answer was is same free refused taken st = (
  subst (λ x. Stands x m) (sym taken) (image_stands l m image was (subst Sound taken is) (free (sym same)) st),
  ap (λ x. board_meaning x m) taken ∙ sym (ap (λ a. cond (is_ok a) (board_meaning (with_image l image) m) (board_meaning l m)) (sym same)),
)
fitted_board l l' image m (Err e) answer was is same free refused taken st =
    (subst (λ x. Stands x m) (sym refused) st, ap (λ x. board_meaning x m) refused ∙ ap (λ a. cond (is_ok a) (board_meaning (with_image l image) m) (board_meaning l m)) same)
