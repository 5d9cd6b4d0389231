-- 01, case A: an arbiter that sees both requests, r1 and r2 (variables 0 and 1), and grants by g1 and g2 (2 and 3). Automaton state 3 is reached where both are granted at once.
use Rattle.std.specs.Prelude.{false, [], ◌∷◌}
use Rattle.model.specs.Sheet.{Sheet}

-- the sheet
unfoldable pub arbiter : Sheet
arbiter = record {
  architecture = record { variables = 4; environment = 2; root = 0; processes = record { inputs = 0x03; outputs = 0x0C; bound = 2; prompts = 0x00; prompted = false } ∷ []; ties = [] };
  automaton = record {
    states = 4;
    initial = 0;
    rejecting = 0x0E;
    edges =
        record { from = 0; to = 0; on = 0x00; off = 0x00; unless = false }
        ∷ record { from = 0; to = 3; on = 0x0C; off = 0x00; unless = false }
        ∷ record { from = 0; to = 1; on = 0x01; off = 0x00; unless = false }
        ∷ record { from = 0; to = 2; on = 0x02; off = 0x00; unless = false }
        ∷ record { from = 1; to = 1; on = 0x00; off = 0x04; unless = false }
        ∷ record { from = 2; to = 2; on = 0x00; off = 0x08; unless = false }
        ∷ record { from = 3; to = 3; on = 0x00; off = 0x00; unless = false }
        ∷ [];
  };
}
