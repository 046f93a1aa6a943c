-- Vectors with a gap before their items.
use Rattle.std.specs.Prelude.{ℕ, List, refl}
use Rattle.std.specs.Coded.{Coded, code_by, coded×, coded_ℕ, coded_list}

-- the items, and how many there is room for, including these
pub record GapVecView (T : Type 0) : Type 0 where
  pub items : List T
  pub room : ℕ

abbrev pub gap_vec_code : {T : Type 0} → Coded T → Coded (GapVecView T)
gap_vec_code {T} code = code_by (List T × ℕ) (coded× (coded_list code) coded_ℕ) (λ v. (v.items, v.room)) (λ p. record { items = p.0; room = p.1 }) (λ _. refl)
