-- What digits write, by their places.
use Rattle.std.proofs.Common.{◌≡◌, ℕ, ◌+◌, ◌-◌, ◌*◌, ◌^◌, List, [], ◌∷◌, length, sym, ap, ◌∙◌, pow-suc, arith}
use Rattle.fields.specs.Runs.{worth_after, worth}
use Rattle.fields.specs.Written.{place_value}

shifted : (w x p v : ℕ) → (w * 10 + x) * p + v ≡ w * (p * 10) + (x * p + v)
shifted w x p v = omega arith

after_places : (w : ℕ) (ds : List ℕ) → worth_after w ds ≡ w * 10 ^ length ds + place_value ds
after_places w [] = omega arith
after_places w (d ∷ ds) =
    after_places (w * 10 + (d - 48)) ds ∙ shifted w (d - 48) (10 ^ length ds) (place_value ds)
    ∙ ap (λ (p : ℕ). w * p + ((d - 48) * 10 ^ length ds + place_value ds)) (sym (pow-suc 10 (length ds)))

pub worth_places : (ds : List ℕ) → worth ds ≡ place_value ds
worth_places ds = after_places 0 ds ∙ omega arith
