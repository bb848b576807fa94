-- A register read between two kernel clocks, by its offset; the whole word (RM0440, the register descriptions).
use Rattle.std.specs.Prelude.{cond, ℕ, eqb, get_or}
use Rattle.rm0440.specs.State.{Timer, reg}
use Rattle.rm0440.specs.Write.{is_ccr, ccr_channel}

-- a basic timer has none of these
unfoldable pub read_channel : ℕ → Timer → ℕ
read_channel off t =
    cond (eqb t.channels 0) 0
    (cond (eqb off 0x18) (get_or t.modes 0 0)
    (cond (eqb off 0x1c) (get_or t.modes 1 0)
    (cond (eqb off 0x20) (reg t 8)
    (cond (is_ccr off) (get_or t.compares (ccr_channel off) 0) 0))))

-- CNT is the counter; EGR and what is no register read 0
unfoldable pub read : ℕ → Timer → ℕ
read off t =
    cond (eqb off 0x00) t.cr1
    (cond (eqb off 0x04) (reg t 1)
    (cond (eqb off 0x08) (reg t 2)
    (cond (eqb off 0x0c) (reg t 3)
    (cond (eqb off 0x10) t.sr
    (cond (eqb off 0x24) t.cnt
    (cond (eqb off 0x28) (reg t 10)
    (cond (eqb off 0x2c) (reg t 11) (read_channel off t))))))))
