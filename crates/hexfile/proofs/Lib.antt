pub mod PairLaws
pub mod SumLaws
pub mod WindowLaws
