-- Keys at the end of a division and past it. Assumes nothing.
use Rattle.std.proofs.Common.{◌≡◌, ℕ, Bool, true, false, cond, ◌&&◌, ◌||◌, eqb, ltb, is_ok, Ok, Err, refl, ap, ◌∙◌}
use Rattle.chest.specs.Places.{put}
use Rattle.console.specs.declared.call.Call.TheVariants.{Press}
use Rattle.console.specs.declared.fault.PlayFault.TheVariants.{Key, KeyDown}
use Rattle.console.specs.Keys.{Keys, sounding, pressed}
use Rattle.console.specs.Model.{Setup, Model, check, done, after}

-- a key that is pressed sounds, and the others as before
pub pressed-sounds : (keys : Keys) (d k : ℕ) → sounding (pressed keys d k) ≡ put (sounding keys) d k true
pressed-sounds keys d k = λ i r q. at (keys.sustain d) r q i where
  by : (on down held : Bool) → ((cond on true down || held) ≡ cond on true (down || held)) × ((cond on true down || cond on true held) ≡ cond on true (down || held))
  by true down held = (refl, refl)
  by false down held = (refl, refl)

  at : (b : Bool) (r q : ℕ) → (put keys.down d k true r q || cond b (put keys.sustained d k true) keys.sustained r q) ≡ put (sounding keys) d k true r q
  at true r q = (by (eqb r d && eqb q k) (keys.down r q) (keys.sustained r q)).1
  at false r q = (by (eqb r d && eqb q k) (keys.down r q) (keys.sustained r q)).0

module _ (s : Setup) (p : Model) where
  pub press_last : s.reach 0 ≡ 61 → p.keys.down 0 60 ≡ false → check s p (Press 0 60) ≡ Ok tt
  press_last r u = λ i. cond (ltb 60 (r i)) (cond (u i) (Err (KeyDown 0 60)) (Ok tt)) (Err (Key 0 60))

  last_pressed : s.reach 0 ≡ 61 → p.keys.down 0 60 ≡ false → (after s p (Press 0 60)).keys ≡ pressed p.keys 0 60
  last_pressed r u = ap (λ a. (cond (is_ok a) (done s p (Press 0 60)) p).keys) (press_last r u)

  pub last_down : s.reach 0 ≡ 61 → p.keys.down 0 60 ≡ false → (after s p (Press 0 60)).keys.down ≡ put p.keys.down 0 60 true
  last_down r u = ap (λ k. k.down) (last_pressed r u)

  pub last_sounds : s.reach 0 ≡ 61 → p.keys.down 0 60 ≡ false → sounding (after s p (Press 0 60)).keys ≡ put (sounding p.keys) 0 60 true
  last_sounds r u = ap sounding (last_pressed r u) ∙ pressed-sounds p.keys 0 60

  pub press_past : s.reach 0 ≡ 61 → check s p (Press 0 61) ≡ Err (Key 0 61)
  press_past r = λ i. cond (ltb 61 (r i)) (cond (p.keys.down 0 61) (Err (KeyDown 0 61)) (Ok tt)) (Err (Key 0 61))

  pub past_stays : s.reach 0 ≡ 61 → after s p (Press 0 61) ≡ p
  past_stays r = ap (λ a. cond (is_ok a) (done s p (Press 0 61)) p) (press_past r)
