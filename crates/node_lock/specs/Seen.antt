-- What a contract sees of a book.
use Rattle.std.specs.Prelude.{ℕ, List, refl}
use Rattle.std.specs.Coded.{Coded, code_by, coded×, coded_list, coded_ℕ}
use Rattle.node_lock.specs.declared.outlet.Outlet.{Outlet}
use Rattle.node_history.specs.declared.history.History.{History}
use Rattle.erl_handshake.specs.declared.setup.Setup.{Setup}

pub record BookSeen : Type 0 where
  -- of all nodes, and the place of its own among them
  pub names : List (List ℕ)
  pub place : ℕ
  pub setup : Setup
  pub history : History
  pub outlets : List Outlet
  -- the most bytes of the pieces that are put from now on
  pub greatest : ℕ

abbrev pub book_code : Coded Setup → Coded History → Coded Outlet → Coded BookSeen
book_code setup history outlet =
    code_by (List (List ℕ) × (ℕ × (Setup × (History × (List Outlet × ℕ)))))
    (coded× (coded_list (coded_list coded_ℕ))
    (coded× coded_ℕ (coded× setup (coded× history (coded× (coded_list outlet) coded_ℕ)))))
    (λ b. (b.names, (b.place, (b.setup, (b.history, (b.outlets, b.greatest))))))
    (λ p. record { names = p.0; place = p.1.0; setup = p.1.1.0; history = p.1.1.1.0; outlets = p.1.1.1.1.0; greatest = p.1.1.1.1.1 })
    (λ _. refl)
