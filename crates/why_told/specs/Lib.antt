pub mod WhyTold
