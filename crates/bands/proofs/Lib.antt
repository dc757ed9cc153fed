-- Laws behind a band's refusals, reports, passes and packing.
pub mod Fit
pub mod Stitched
pub mod Passes
pub mod Reports
pub mod Packs
