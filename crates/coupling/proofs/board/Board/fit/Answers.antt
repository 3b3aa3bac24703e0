-- Below nothing changes, and while no key is set any image is empty.
use Rattle.std.proofs.Common.{◌≡◌, Ok, Err, Result, OnOk, OnErr, ap}
use Rattle.coupling.proofs.Fits.{fitted_board}
use Rattle.coupling.proofs.board.Board.fit.Goals as goal

-- what a fitting says of the coupling, said of its layout
refused : {E K L : Type 0} (layout : K → L) (r : Result Unit E) (k k' : K) → OnErr r (k' ≡ k) → OnErr r (layout k' ≡ layout k)
refused layout (Ok u) k k' same = tt
refused layout (Err e) k k' same = ap layout same

taken : {E : Type 0} (r : Result Unit E) (Takes Changes : Type 0) → (Takes → Changes) → OnOk r Takes → OnOk r Changes
taken (Ok u) Takes Changes step takes = step takes
taken (Err e) Takes Changes step takes = tt

pub returns-clause-after : goal.returns-clause-after
returns-clause-after g c = λ settled.
    let old = c.args.self.now in
    let layout = g.K.Coupling.layout in
    let m = g.C.Chest.meaning old.below in
    let k = old.coupling in
    let k' = c.fit.new.self in
    let done = fitted_board (layout k) (layout k') (g.K.Fittable.fitted_image k c.args.offer) m c.fit.result (g.K.Fittable.fit_answer k m c.args.offer) (g.met.K.Coupling.sound k) (g.met.K.Coupling.sound k') c.fit.ensures.answer (g.met.K.Fittable.free k m c.args.offer) (refused layout c.fit.result k k' c.fit.ensures.same) (taken c.fit.result _ _ (g.met.K.Fittable.changes k k' c.args.offer) c.fit.ensures.items) settled.1 in
    ((settled.0, done.0), done.1)
